-- An input that is taken for good leads by acts, of which the promises hold; one that is refused changes nothing.
use Rattle.std.proofs.Common.{ap, arith, refl, subst, sym, ◌∙◌}
use Rattle.std.specs.Arc.{arc_value}
use Rattle.ask_model.specs.Views.{rules_of}
use Rattle.exchange_core.specs.Values.{CoreValue}
use Rattle.gateway_model.specs.Emissions.{emissions}
use Rattle.gateway_world.specs.declared.engine.Engine.{Engine}
use Rattle.gateway_world.specs.Keeping.{IsKept}
use Rattle.gateway_world.specs.Worlds.{WorldValue, IsTooMuch, served_in, world_of}
use Rattle.gateway_world.proofs.Advancing.{opened-stepped, taken-stepped}
use Rattle.gateway_world.proofs.Promises.{kept-back, kept-stepped, world-back}
use Rattle.gateway_world.proofs.state.World.advance.Goals as goal

pub invariant_of-result : goal.invariant_of-result
invariant_of-result g c =
    let kept = subst (λ (e : Engine _). IsKept g.R.Relation.holds g.R.Relation.takes (rules_of (arc_value c.self.inside.settings)) c.self.inside.moment e)
    (sym c.deref_mut-engine.ensures.value) c.self.invariant in
    kept-stepped g.R.Relation.holds g.R.Relation.takes _ _ _ _ c.max-moment.result c.deref_mut-engine.result.now c.step.new.self _ _ _
    (rw (c.in-Taken.is) at c.in_ok-opened.ensures.steps) kept c.in_ok-opened.ensures.drained c.journal.ensures.kept c.journal-in-Taken.ensures.stands
    refl c.mark.ensures.current c.mark.ensures.marked
    (let a = c.max-moment.ensures in let b = c.min.ensures in let d = c.self.invariant.2 in omega (arith, a, b, d))

pub returns-in-Taken-clause-takes : goal.returns-in-Taken-clause-takes
returns-in-Taken-clause-takes g c =
    let same = c.deref_mut-engine.ensures.value in
    let kept = subst (λ (e : Engine _). IsKept g.R.Relation.holds g.R.Relation.takes (rules_of (arc_value c.self.inside.settings)) c.self.inside.moment e)
    (sym same) c.self.invariant in
    let view = ap (λ (e : Engine _). world_of e (rules_of (arc_value c.self.inside.settings)) c.self.inside.moment) same ∙ c.self.view_is in
    let room = subst (λ (w : WorldValue). IsTooMuch c.args.input.happening (served_in w) → ⊥) (sym view) c.requires.room in
    rw (← view)
    (taken-stepped g.R.Relation.holds g.R.Relation.takes _ c.in_order.ensures c.args.input _ c.max-moment.result c.deref_mut-engine.result.now c.step.new.self _ _ _
    (rw (c.in-Taken.is) at c.in_ok-opened.ensures.steps) (ap emissions c.clear.ensures.items)
    (let a = c.max-moment.ensures in let b = c.min.ensures in omega (arith, a, b)) refl c.mark.ensures.current
    kept c.in_ok-opened.ensures.drained c.journal.ensures.kept c.journal.ensures.stands c.journal-in-Taken.ensures.stands room (invariant_of-result g c))

pub returns-in-Taken-clause-opened : goal.returns-in-Taken-clause-opened
returns-in-Taken-clause-opened g c =
    let view = ap (λ (e : Engine _). world_of e (rules_of (arc_value c.self.inside.settings)) c.self.inside.moment) c.deref_mut-engine.ensures.value
    ∙ c.self.view_is in
    rw (← view)
    (opened-stepped _ _ c.args.input.happening c.in-Taken.opened c.deref_mut-engine.result.now c.step.new.self _ _
    (rw (c.in-Taken.is) at c.in_ok-opened.ensures.steps) (ap emissions c.clear.ensures.items) (rw (c.in-Taken.is) at c.in_ok-opened.ensures.opened))

-- Where it is refused.

pub invariant_of-result-in-Refused : goal.invariant_of-result-in-Refused
invariant_of-result-in-Refused g c =
    let kept = subst (λ (e : Engine _). IsKept g.R.Relation.holds g.R.Relation.takes (rules_of (arc_value c.self.inside.settings)) c.self.inside.moment e)
    (sym c.deref_mut-engine.ensures.value) c.self.invariant in
    let same = (rw (c.in-Refused.is) at c.in_ok-opened.ensures.stays) tt in
    kept-back g.R.Relation.holds g.R.Relation.takes _ c.self.inside.moment c.deref_mut-engine.result.now c.step.new.self
    same.core same.current same.marked kept

pub returns-in-Refused-clause-stays : goal.returns-in-Refused-clause-stays
returns-in-Refused-clause-stays g c = λ refused.
    let view = ap (λ (e : Engine _). world_of e (rules_of (arc_value c.self.inside.settings)) c.self.inside.moment) c.deref_mut-engine.ensures.value
    ∙ c.self.view_is in
    let same = (rw (c.in-Refused.is) at c.in_ok-opened.ensures.stays) tt in (
      world-back c.deref_mut-engine.result.now c.step.new.self _ c.self.inside.moment same.core same.current ∙ view,
      same.outputs ∙ c.clear.ensures.items,
    )

pub returns-in-Refused-clause-opened : goal.returns-in-Refused-clause-opened
returns-in-Refused-clause-opened g c =
    let view = ap (λ (e : Engine _). world_of e (rules_of (arc_value c.self.inside.settings)) c.self.inside.moment) c.deref_mut-engine.ensures.value
    ∙ c.self.view_is in
    let same = (rw (c.in-Refused.is) at c.in_ok-opened.ensures.stays) tt in
    ap (λ (v : CoreValue). v.state.opened) same.core ∙ ap (λ (w : WorldValue). w.core.state.opened) view
