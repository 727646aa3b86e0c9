-- A connection takes leave.
use Rattle.gateway_loop.proofs.Standing.{serving-at, serving-leaves}
use Rattle.gateway_loop.proofs.gateway.Gateway.leave.Goals as goal

pub invariant_of-self : goal.invariant_of-self
invariant_of-self g c =
    serving-leaves g.R.Relation.holds g.R.Relation.takes g.S.Stream.written g.S.Stream.gave g.W.Wire.sent g.W.Wire.heard
    c.self.inside.world c.args.number c.deref_mut.result.now.clients.places c.leave.new.self.places c.deref_mut.result.now.wire
    c.deref_mut.result.now.clients.told c.leave.new.self.told (serving-at g.R.Relation.holds g.R.Relation.takes g.S.Stream.written g.S.Stream.gave g.W.Wire.sent
    g.W.Wire.heard c.self.inside.world _ _ c.deref_mut.ensures.value c.self.invariant) c.leave.ensures.told c.leave.ensures.leaves
