-- What was read is kept, or lost with its connection.
use Rattle.gateway_loop.proofs.Standing.{serving-at, serving-read}
use Rattle.gateway_loop.proofs.gateway.Gateway.find_piece.Goals as goal

pub invariant_of-self : goal.invariant_of-self
invariant_of-self g c =
    serving-read g.R.Relation.holds g.R.Relation.takes g.S.Stream.written g.S.Stream.gave g.W.Wire.sent g.W.Wire.heard
    c.read.result c.self.inside.world c.args.number c.deref_mut.result.now.clients.places c.read.new.self.places c.deref_mut.result.now.wire
    c.deref_mut.result.now.clients.told c.read.new.self.told (serving-at g.R.Relation.holds g.R.Relation.takes g.S.Stream.written g.S.Stream.gave g.W.Wire.sent
    g.W.Wire.heard c.self.inside.world _ _ c.deref_mut.ensures.value c.self.invariant) c.read.ensures.told c.read.ensures.reads c.read.ensures.lost

pub invariant_of-self-in-Later : goal.invariant_of-self-in-Later
invariant_of-self-in-Later g c =
    serving-read g.R.Relation.holds g.R.Relation.takes g.S.Stream.written g.S.Stream.gave g.W.Wire.sent g.W.Wire.heard
    c.read.result c.self.inside.world c.args.number c.deref_mut.result.now.clients.places c.read.new.self.places c.deref_mut.result.now.wire
    c.deref_mut.result.now.clients.told c.read.new.self.told (serving-at g.R.Relation.holds g.R.Relation.takes g.S.Stream.written g.S.Stream.gave g.W.Wire.sent
    g.W.Wire.heard c.self.inside.world _ _ c.deref_mut.ensures.value c.self.invariant) c.read.ensures.told c.read.ensures.reads c.read.ensures.lost

pub invariant_of-self-in-End : goal.invariant_of-self-in-End
invariant_of-self-in-End g c =
    serving-read g.R.Relation.holds g.R.Relation.takes g.S.Stream.written g.S.Stream.gave g.W.Wire.sent g.W.Wire.heard
    c.read.result c.self.inside.world c.args.number c.deref_mut.result.now.clients.places c.read.new.self.places c.deref_mut.result.now.wire
    c.deref_mut.result.now.clients.told c.read.new.self.told (serving-at g.R.Relation.holds g.R.Relation.takes g.S.Stream.written g.S.Stream.gave g.W.Wire.sent
    g.W.Wire.heard c.self.inside.world _ _ c.deref_mut.ensures.value c.self.invariant) c.read.ensures.told c.read.ensures.reads c.read.ensures.lost
