-- Entries left memory, and all is served as it was.
use Rattle.std.proofs.Common.{refl, subst, sym}
use Rattle.gateway_world.specs.Worlds.{memory_of}
use Rattle.gateway_loop.specs.Serving.{IsServing}
use Rattle.gateway_loop.proofs.Remembering.{serving-shorter}
use Rattle.gateway_loop.proofs.Standing.{serving-at}
use Rattle.gateway_loop.proofs.gateway.Gateway.let_go.Goals as goal

pub invariant_of-self : goal.invariant_of-self
invariant_of-self g c =
    serving-shorter g.R.Relation.holds g.R.Relation.takes g.S.Stream.written g.S.Stream.gave g.W.Wire.sent g.W.Wire.heard
    c.self.inside.world c.let_all_go.new.world c.take_refused.new.self.places c.deref_mut.result.now.wire
    c.take_refused.new.self.told c.let_all_go.ensures
    (subst (λ v. IsServing g.R.Relation.holds g.R.Relation.takes g.S.Stream.written g.S.Stream.gave g.W.Wire.sent g.W.Wire.heard
    c.self.inside.world v.places c.deref_mut.result.now.wire v.told) (sym c.take_refused.ensures)
    (serving-at g.R.Relation.holds g.R.Relation.takes g.S.Stream.written g.S.Stream.gave g.W.Wire.sent
    g.W.Wire.heard c.self.inside.world _ _ c.deref_mut.ensures.value c.self.invariant))

pub returns-else-take_refused-clause-shorter : goal.returns-else-take_refused-clause-shorter
returns-else-take_refused-clause-shorter g c = (memory_of c.self.inside.world, rw (← c.self.view_is) refl)
