-- What was left is written.
use Rattle.gateway_loop.proofs.Standing.{serving-at, serving-writes}
use Rattle.gateway_loop.proofs.gateway.Gateway.serve.Goals as goal

pub invariant_of-self : goal.invariant_of-self
invariant_of-self g c =
    serving-writes g.R.Relation.holds g.R.Relation.takes g.S.Stream.written g.S.Stream.gave g.W.Wire.sent g.W.Wire.heard
    c.self.inside.world c.args.number c.deref_mut.result.now.clients.places c.flush.new.self.places c.deref_mut.result.now.wire
    c.deref_mut.result.now.clients.told c.flush.new.self.told (serving-at g.R.Relation.holds g.R.Relation.takes g.S.Stream.written g.S.Stream.gave g.W.Wire.sent
    g.W.Wire.heard c.self.inside.world _ _ c.deref_mut.ensures.value c.self.invariant) c.flush.ensures.told c.flush.ensures.writes

pub invariant_of-self-in-End : goal.invariant_of-self-in-End
invariant_of-self-in-End g c =
    serving-writes g.R.Relation.holds g.R.Relation.takes g.S.Stream.written g.S.Stream.gave g.W.Wire.sent g.W.Wire.heard
    c.self.inside.world c.args.number c.deref_mut.result.now.clients.places c.flush.new.self.places c.deref_mut.result.now.wire
    c.deref_mut.result.now.clients.told c.flush.new.self.told (serving-at g.R.Relation.holds g.R.Relation.takes g.S.Stream.written g.S.Stream.gave g.W.Wire.sent
    g.W.Wire.heard c.self.inside.world _ _ c.deref_mut.ensures.value c.self.invariant) c.flush.ensures.told c.flush.ensures.writes

pub invariant_of-self-in-Some-Open : goal.invariant_of-self-in-Some-Open
invariant_of-self-in-Some-Open g c =
    serving-writes g.R.Relation.holds g.R.Relation.takes g.S.Stream.written g.S.Stream.gave g.W.Wire.sent g.W.Wire.heard
    c.self.inside.world c.args.number c.deref_mut.result.now.clients.places c.flush.new.self.places c.deref_mut.result.now.wire
    c.deref_mut.result.now.clients.told c.flush.new.self.told (serving-at g.R.Relation.holds g.R.Relation.takes g.S.Stream.written g.S.Stream.gave g.W.Wire.sent
    g.W.Wire.heard c.self.inside.world _ _ c.deref_mut.ensures.value c.self.invariant) c.flush.ensures.told c.flush.ensures.writes

pub invariant_of-self-in-Some-Closing : goal.invariant_of-self-in-Some-Closing
invariant_of-self-in-Some-Closing g c =
    serving-writes g.R.Relation.holds g.R.Relation.takes g.S.Stream.written g.S.Stream.gave g.W.Wire.sent g.W.Wire.heard
    c.self.inside.world c.args.number c.deref_mut.result.now.clients.places c.flush.new.self.places c.deref_mut.result.now.wire
    c.deref_mut.result.now.clients.told c.flush.new.self.told (serving-at g.R.Relation.holds g.R.Relation.takes g.S.Stream.written g.S.Stream.gave g.W.Wire.sent
    g.W.Wire.heard c.self.inside.world _ _ c.deref_mut.ensures.value c.self.invariant) c.flush.ensures.told c.flush.ensures.writes

pub invariant_of-self-in-Some-Leaving : goal.invariant_of-self-in-Some-Leaving
invariant_of-self-in-Some-Leaving g c =
    serving-writes g.R.Relation.holds g.R.Relation.takes g.S.Stream.written g.S.Stream.gave g.W.Wire.sent g.W.Wire.heard
    c.self.inside.world c.args.number c.deref_mut.result.now.clients.places c.flush.new.self.places c.deref_mut.result.now.wire
    c.deref_mut.result.now.clients.told c.flush.new.self.told (serving-at g.R.Relation.holds g.R.Relation.takes g.S.Stream.written g.S.Stream.gave g.W.Wire.sent
    g.W.Wire.heard c.self.inside.world _ _ c.deref_mut.ensures.value c.self.invariant) c.flush.ensures.told c.flush.ensures.writes

pub invariant_of-self-in-None : goal.invariant_of-self-in-None
invariant_of-self-in-None g c =
    serving-writes g.R.Relation.holds g.R.Relation.takes g.S.Stream.written g.S.Stream.gave g.W.Wire.sent g.W.Wire.heard
    c.self.inside.world c.args.number c.deref_mut.result.now.clients.places c.flush.new.self.places c.deref_mut.result.now.wire
    c.deref_mut.result.now.clients.told c.flush.new.self.told (serving-at g.R.Relation.holds g.R.Relation.takes g.S.Stream.written g.S.Stream.gave g.W.Wire.sent
    g.W.Wire.heard c.self.inside.world _ _ c.deref_mut.ensures.value c.self.invariant) c.flush.ensures.told c.flush.ensures.writes

pub invariant_of-self-in-Some-Parked : goal.invariant_of-self-in-Some-Parked
invariant_of-self-in-Some-Parked g c =
    serving-writes g.R.Relation.holds g.R.Relation.takes g.S.Stream.written g.S.Stream.gave g.W.Wire.sent g.W.Wire.heard
    c.self.inside.world c.args.number c.deref_mut.result.now.clients.places c.flush.new.self.places c.deref_mut.result.now.wire
    c.deref_mut.result.now.clients.told c.flush.new.self.told (serving-at g.R.Relation.holds g.R.Relation.takes g.S.Stream.written g.S.Stream.gave g.W.Wire.sent
    g.W.Wire.heard c.self.inside.world _ _ c.deref_mut.ensures.value c.self.invariant) c.flush.ensures.told c.flush.ensures.writes
