-- What was told is forgotten.
use Rattle.std.proofs.Common.{ap, rules, subst, sym}
use Rattle.gateway_loop.specs.Serving.{IsServing}
use Rattle.gateway_loop.proofs.Standing.{serving-at, serving-forgets}
use Rattle.gateway_loop.proofs.Tellings.{forgotten-none}
use Rattle.gateway_loop.proofs.gateway.Gateway.forget_told.Goals as goal

pub invariant_of-self : goal.invariant_of-self
invariant_of-self g c =
    subst (λ ps. IsServing g.R.Relation.holds g.R.Relation.takes g.S.Stream.written g.S.Stream.gave g.W.Wire.sent g.W.Wire.heard
    c.self.inside.world ps c.deref_mut.result.now.wire c.forget_told.new.self.told)
    (sym (ap (λ v. v.places) c.forget_told.ensures))
    (serving-forgets g.R.Relation.holds g.R.Relation.takes g.S.Stream.written g.S.Stream.gave g.W.Wire.sent g.W.Wire.heard
    c.self.inside.world c.deref_mut.result.now.clients.places c.deref_mut.result.now.wire c.deref_mut.result.now.clients.told c.forget_told.new.self.told
    (serving-at g.R.Relation.holds g.R.Relation.takes g.S.Stream.written g.S.Stream.gave g.W.Wire.sent
    g.W.Wire.heard c.self.inside.world _ _ c.deref_mut.ensures.value c.self.invariant) (forgotten-none c.deref_mut.result.now.clients.told c.forget_told.new.self.told (search rules)))
