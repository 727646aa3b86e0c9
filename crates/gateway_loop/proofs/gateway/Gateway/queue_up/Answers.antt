-- What is there stays.
use Rattle.std.proofs.Common.{subst, sym}
use Rattle.gateway_loop.specs.Places.{ClientsValue}
use Rattle.gateway_loop.specs.Serving.{IsServing}
use Rattle.gateway_loop.proofs.Standing.{serving-at}
use Rattle.gateway_loop.proofs.gateway.Gateway.queue_up.Goals as goal

pub invariant_of-self : goal.invariant_of-self
invariant_of-self g c =
    subst (λ (v : ClientsValue _). IsServing g.R.Relation.holds g.R.Relation.takes g.S.Stream.written g.S.Stream.gave g.W.Wire.sent g.W.Wire.heard
    c.self.inside.world v.places c.deref_mut.result.now.wire v.told) (sym c.queue_up.ensures) (serving-at g.R.Relation.holds g.R.Relation.takes g.S.Stream.written g.S.Stream.gave g.W.Wire.sent
    g.W.Wire.heard c.self.inside.world _ _ c.deref_mut.ensures.value c.self.invariant)
