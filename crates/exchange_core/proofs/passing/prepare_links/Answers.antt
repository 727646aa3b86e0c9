use Rattle.std.proofs.Common.{◌≡◌, ℕ, Bool, List, Result, Ok, Err, subst}
use Rattle.std.specs.Prelude.{IfOk}
use Rattle.exchange_model.specs.State.{PeerLink, State}
use Rattle.exchange_model.specs.Entering.{all_deeds, all_going}
use Rattle.endpoint_table.specs.Turns.{AreTurns, turns_deeds, turns_going}
use Rattle.exchange_core.specs.States.{state_of}
use Rattle.exchange_core.specs.Turns.{AreTimed}
use Rattle.exchange_core.proofs.TickDraft.{gone-is}
use Rattle.exchange_core.proofs.TickTimed.{are-timed}
use Rattle.exchange_core.proofs.passing.prepare_links.Goals as goal

so-too : {X E : Type 0} (P Q : X → Type 0) (r : Result X E) → ((x : X) → P x → Q x) → IfOk r P
    → IfOk r Q
so-too P Q (Ok x) f h = f x h
so-too P Q (Err e) f h = tt

pub returns-clause-timed : goal.returns-clause-timed
returns-clause-timed g c =
    let t = c.args.moment in
    let gone = c.args.gone.now in
    let S : State = state_of c.args.s.now in
    so-too (λ v. AreTurns t gone c.prepare_tick.new.self.links
    c.prepare_tick.new.self.rooms v.items) (λ v. AreTimed v.items) c.prepare_tick.result
    (λ v h. are-timed t gone S c.prepare_tick.new.self.rooms v.items
    c.requires.sound.kept.kept c.requires.sound.drained
    (subst (λ (xs : List PeerLink). AreTurns t gone xs c.prepare_tick.new.self.rooms v.items)
    c.prepare_tick.ensures.same h)) c.prepare_tick.ensures.ready

pub returns-clause-deeds : goal.returns-clause-deeds
returns-clause-deeds g c =
    let t = c.args.moment in
    let S : State = state_of c.args.s.now in
    subst (λ (gone : List ℕ → Bool). IfOk c.prepare_tick.result
    (λ v. turns_deeds v.items ≡ all_deeds t gone S.links))
    (gone-is t S c.args.gone.now c.requires.gone) c.prepare_tick.ensures.deeds

pub returns-clause-going : goal.returns-clause-going
returns-clause-going g c =
    let t = c.args.moment in
    let S : State = state_of c.args.s.now in
    subst (λ (gone : List ℕ → Bool). IfOk c.prepare_tick.result
    (λ v. (n : ℕ) → turns_going n v.items ≡ all_going t gone n S.links))
    (gone-is t S c.args.gone.now c.requires.gone) c.prepare_tick.ensures.going
