-- An input that is taken leads by acts, of which the promises hold; one that is refused changes nothing.
use Rattle.std.proofs.Common.{◌≡◌, Bool, true, false, refl, sym, ap, ◌∙◌, subst, arith}
use Rattle.std.specs.Arc.{arc_value}
use Rattle.std.specs.Prelude.{⊤}
use Rattle.ask_model.specs.Views.{rules_of}
use Rattle.exchange_core.specs.Snapshots.{IsOf}
use Rattle.gateway_model.specs.Emissions.{emissions}
use Rattle.gateway_world.specs.declared.engine.Engine.{Engine}
use Rattle.gateway_world.specs.Keeping.{IsKept}
use Rattle.gateway_world.specs.Worlds.{WorldValue, IsTooMuch, served_in, world_of}
use Rattle.gateway_world.proofs.Advancing.{taken-stepped}
use Rattle.gateway_world.proofs.Ends.{ends-none, gone-back}
use Rattle.gateway_world.proofs.Promises.{kept-back, kept-stepped, world-back}
use Rattle.gateway_world.proofs.Memories.{takes-hold}
use Rattle.gateway_world.proofs.state.World.input.Goals as goal

pub invariant_of-self-in-Ok-Taken : goal.invariant_of-self-in-Ok-Taken
invariant_of-self-in-Ok-Taken g c =
    let kept = subst (λ (e : Engine _). IsKept g.R.Relation.holds g.R.Relation.takes (rules_of (arc_value c.self.inside.settings)) c.self.inside.moment e)
    (sym c.deref_mut-engine.ensures.value) c.self.invariant in
    kept-stepped g.R.Relation.holds g.R.Relation.takes _ _ _ _ c.max-moment.result c.deref_mut-engine.result.now c.step.new.self _ _ _
    (rw (c.in-Ok-Taken.field-0-is) at c.in-Ok-Taken.ensures.steps) kept c.in-Ok-Taken.ensures.drained c.journal.ensures.kept c.journal-in-Ok-Taken.ensures.stands
    refl c.mark.ensures.current c.mark.ensures.marked
    (let a = c.max-moment.ensures in let b = c.min.ensures in let d = c.self.invariant.2 in omega (arith, a, b, d))

pub invariant_of-self-in-Err : goal.invariant_of-self-in-Err
invariant_of-self-in-Err g c =
    let same = c.deref_mut-engine.ensures.value in
    let kept = subst (λ (e : Engine _). IsKept g.R.Relation.holds g.R.Relation.takes (rules_of (arc_value c.self.inside.settings)) c.self.inside.moment e)
    (sym same) c.self.invariant in
    let taken = subst (λ (e : Engine _). IsOf c.in_ok-before.before e.core) (c.deref.ensures ∙ sym same) c.in_ok-before.ensures in
    kept-back g.R.Relation.holds g.R.Relation.takes _ c.self.inside.moment c.deref_mut-engine.result.now _
    (c.restore-in-Err.ensures c.deref_mut-engine.result.now.core taken c.in-Err.ensures.back.grows.entries c.in-Err.ensures.back.grows.given c.in-Err.ensures.back.grows.kept)
    (c.back-in-Err.ensures.current ∙ (c.in-Err.ensures.back.marked ∙ kept.0.marked))
    (c.back-in-Err.ensures.marked ∙ c.in-Err.ensures.back.marked)
    kept

abbrev IsOff : Bool → Type 0
IsOff true = ⊥
IsOff false = ⊤

pub returns-in-Ok-Taken-clause-takes : goal.returns-in-Ok-Taken-clause-takes
returns-in-Ok-Taken-clause-takes g c =
    let same = c.deref_mut-engine.ensures.value in
    let kept = subst (λ (e : Engine _). IsKept g.R.Relation.holds g.R.Relation.takes (rules_of (arc_value c.self.inside.settings)) c.self.inside.moment e)
    (sym same) c.self.invariant in
    let view = ap (λ (e : Engine _). world_of e (rules_of (arc_value c.self.inside.settings)) c.self.inside.moment) same ∙ c.self.view_is in
    let room = subst (λ (w : WorldValue). IsTooMuch c.args.input.happening (served_in w) → ⊥) (sym view)
    (λ full. subst IsOff (c.is_too_much.ensures.1 full) (subst IsOff (sym c.if-is_too_much.false) tt)) in
    rw (← view)
    (taken-stepped g.R.Relation.holds g.R.Relation.takes _ c.in_order.ensures c.args.input _ c.max-moment.result c.deref_mut-engine.result.now c.step.new.self _ _ _
    (rw (c.in-Ok-Taken.field-0-is) at c.in-Ok-Taken.ensures.steps) (ap emissions c.new-outputs.ensures.items)
    (let a = c.max-moment.ensures in let b = c.min.ensures in omega (arith, a, b)) refl c.mark.ensures.current
    kept c.in-Ok-Taken.ensures.drained c.journal.ensures.kept c.journal.ensures.stands c.journal-in-Ok-Taken.ensures.stands room (invariant_of-self-in-Ok-Taken g c))

pub returns-in-Ok-Taken-clause-given : goal.returns-in-Ok-Taken-clause-given
returns-in-Ok-Taken-clause-given g c =
    takes-hold g.R.Relation.holds g.R.Relation.takes _ _ _ _ (returns-in-Ok-Taken-clause-takes g c)

pub returns-in-Ok-Taken-clause-rests : goal.returns-in-Ok-Taken-clause-rests
returns-in-Ok-Taken-clause-rests g c = let k = invariant_of-self-in-Ok-Taken g c in record { drained = k.1; rests = k.3 }

-- Where it is refused at once.

pub invariant_of-self-in-Ok-Refused : goal.invariant_of-self-in-Ok-Refused
invariant_of-self-in-Ok-Refused g c =
    let kept = subst (λ (e : Engine _). IsKept g.R.Relation.holds g.R.Relation.takes (rules_of (arc_value c.self.inside.settings)) c.self.inside.moment e)
    (sym c.deref_mut-engine.ensures.value) c.self.invariant in
    let same = (rw (c.in-Ok-Refused.field-0-is) at c.in-Ok-Refused.ensures.stays) tt in
    kept-back g.R.Relation.holds g.R.Relation.takes _ c.self.inside.moment c.deref_mut-engine.result.now c.step.new.self
    same.core same.current same.marked kept

pub returns-in-Ok-Refused-clause-unchanged : goal.returns-in-Ok-Refused-clause-unchanged
returns-in-Ok-Refused-clause-unchanged g c =
    let view = ap (λ (e : Engine _). world_of e (rules_of (arc_value c.self.inside.settings)) c.self.inside.moment) c.deref_mut-engine.ensures.value
    ∙ c.self.view_is in
    let same = (rw (c.in-Ok-Refused.field-0-is) at c.in-Ok-Refused.ensures.stays) tt in
    world-back c.deref_mut-engine.result.now c.step.new.self _ c.self.inside.moment same.core same.current ∙ view

pub returns-in-Ok-Refused-clause-rests : goal.returns-in-Ok-Refused-clause-rests
returns-in-Ok-Refused-clause-rests g c = let k = invariant_of-self-in-Ok-Refused g c in record { drained = k.1; rests = k.3 }

pub returns-clause-unchanged : goal.returns-clause-unchanged
returns-clause-unchanged g c =
    let same = c.deref_mut-engine.ensures.value in
    let ready = subst (λ (e : Engine _). e.table.marked ≡ e.table.current) (sym same) c.self.invariant.0.marked in
    let taken = subst (λ (e : Engine _). IsOf c.in_ok-before.before e.core) (c.deref.ensures ∙ sym same) c.in_ok-before.ensures in
    let view = ap (λ (e : Engine _). world_of e (rules_of (arc_value c.self.inside.settings)) c.self.inside.moment) same ∙ c.self.view_is in
    world-back c.deref_mut-engine.result.now
    (record { alloc = c.step.new.self.alloc; core = c.restore-in-Err.new.self; table = c.back-in-Err.new.self })
    _ c.self.inside.moment
    (c.restore-in-Err.ensures c.deref_mut-engine.result.now.core taken c.in-Err.ensures.back.grows.entries c.in-Err.ensures.back.grows.given c.in-Err.ensures.back.grows.kept)
    (c.back-in-Err.ensures.current ∙ (c.in-Err.ensures.back.marked ∙ ready))
    ∙ view

pub returns-clause-rests : goal.returns-clause-rests
returns-clause-rests g c =
    let same = c.deref_mut-engine.ensures.value in
    let kept = subst (λ (e : Engine _). IsKept g.R.Relation.holds g.R.Relation.takes (rules_of (arc_value c.self.inside.settings)) c.self.inside.moment e)
    (sym same) c.self.invariant in
    let taken = subst (λ (e : Engine _). IsOf c.in_ok-before.before e.core) (c.deref.ensures ∙ sym same) c.in_ok-before.ensures in
    let k = kept-back g.R.Relation.holds g.R.Relation.takes _ c.self.inside.moment c.deref_mut-engine.result.now
    (record { alloc = c.step.new.self.alloc; core = c.restore-in-Err.new.self; table = c.back-in-Err.new.self })
    (c.restore-in-Err.ensures c.deref_mut-engine.result.now.core taken c.in-Err.ensures.back.grows.entries c.in-Err.ensures.back.grows.given c.in-Err.ensures.back.grows.kept)
    (c.back-in-Err.ensures.current ∙ (c.in-Err.ensures.back.marked ∙ kept.0.marked))
    (c.back-in-Err.ensures.marked ∙ c.in-Err.ensures.back.marked)
    kept in
    record { drained = k.1; rests = k.3 }

pub returns-in-Ok-Taken-clause-whole : goal.returns-in-Ok-Taken-clause-whole
returns-in-Ok-Taken-clause-whole g c =
    ends-none c.step.new.outputs.items c.as_slice.result.now c.gives_up.result c.as_slice.ensures.value c.gives_up.ensures c.if-gives_up.false

pub invariant_of-self : goal.invariant_of-self
invariant_of-self g c =
    let same = c.deref_mut-engine.ensures.value in
    let kept = subst (λ (e : Engine _). IsKept g.R.Relation.holds g.R.Relation.takes (rules_of (arc_value c.self.inside.settings)) c.self.inside.moment e)
    (sym same) c.self.invariant in
    let taken = subst (λ (e : Engine _). IsOf c.in_ok-before.before e.core) (c.deref.ensures ∙ sym same) c.in_ok-before.ensures in
    let gone = gone-back c.deref_mut-engine.result.now c.step.new.self _ c.step.new.outputs.items c.as_slice.result.now c.gives_up.result
    c.new-outputs.ensures.items c.in-Ok-Taken.ensures.may c.as_slice.ensures.value c.gives_up.ensures c.if-gives_up.true in
    kept-back g.R.Relation.holds g.R.Relation.takes _ c.self.inside.moment c.deref_mut-engine.result.now _
    (c.restore.ensures c.deref_mut-engine.result.now.core taken gone.grows.entries gone.grows.given gone.grows.kept)
    (c.back.ensures.current ∙ (gone.marked ∙ kept.0.marked))
    (c.back.ensures.marked ∙ gone.marked)
    kept

pub returns-then-gives_up-clause-unchanged : goal.returns-then-gives_up-clause-unchanged
returns-then-gives_up-clause-unchanged g c =
    let same = c.deref_mut-engine.ensures.value in
    let ready = subst (λ (e : Engine _). e.table.marked ≡ e.table.current) (sym same) c.self.invariant.0.marked in
    let taken = subst (λ (e : Engine _). IsOf c.in_ok-before.before e.core) (c.deref.ensures ∙ sym same) c.in_ok-before.ensures in
    let view = ap (λ (e : Engine _). world_of e (rules_of (arc_value c.self.inside.settings)) c.self.inside.moment) same ∙ c.self.view_is in
    let gone = gone-back c.deref_mut-engine.result.now c.step.new.self _ c.step.new.outputs.items c.as_slice.result.now c.gives_up.result
    c.new-outputs.ensures.items c.in-Ok-Taken.ensures.may c.as_slice.ensures.value c.gives_up.ensures c.if-gives_up.true in
    world-back c.deref_mut-engine.result.now
    (record { alloc = c.step.new.self.alloc; core = c.restore.new.self; table = c.back.new.self })
    _ c.self.inside.moment
    (c.restore.ensures c.deref_mut-engine.result.now.core taken gone.grows.entries gone.grows.given gone.grows.kept)
    (c.back.ensures.current ∙ (gone.marked ∙ ready))
    ∙ view

pub returns-then-gives_up-clause-rests : goal.returns-then-gives_up-clause-rests
returns-then-gives_up-clause-rests g c =
    let k = invariant_of-self g c in record { drained = k.1; rests = k.3 }

pub restore-requires : goal.restore-requires
restore-requires g c =
    let same = c.deref_mut-engine.ensures.value in
    let gone = gone-back c.deref_mut-engine.result.now c.step.new.self _ c.step.new.outputs.items c.as_slice.result.now c.gives_up.result
    c.new-outputs.ensures.items c.in-Ok-Taken.ensures.may c.as_slice.ensures.value c.gives_up.ensures c.if-gives_up.true in
    record {
      before = c.deref_mut-engine.result.now.core;
      taken = subst (λ (e : Engine _). IsOf c.in_ok-before.before e.core) (c.deref.ensures ∙ sym same) c.in_ok-before.ensures;
      grows = gone.grows.entries;
      given = gone.grows.given;
      kept = gone.grows.kept;
    }
