use Rattle.std.proofs.Common.{◌≡◌, sym, ap, subst, ◌∙◌}
use Rattle.std.specs.Prelude.{OnOk}
use Rattle.exchange_model.specs.State.{State}
use Rattle.exchange_core.specs.Values.{stepped}
use Rattle.exchange_core.specs.States.{state_of, seen, given_in, outgoing}
use Rattle.exchange_core.proofs.Stepping.{stepped-same}
use Rattle.exchange_core.proofs.TickSteps.{when-sealed, when-none}
use Rattle.exchange_core.proofs.ticking.tick.Goals as goal

pub returns-then-s-clause-ticks : goal.returns-then-s-clause-ticks
returns-then-s-clause-ticks g c =
    let S : State = state_of c.args.s.now in
    subst (λ (V : State). OnOk c.tick_sealed.result
    (seen c.tick_sealed.new.s ≡ stepped V (seen c.args.s.now)))
    (sym (when-sealed c.args.moment S c.if-s.true)) c.tick_sealed.ensures.ticks

pub returns-then-not-is_due-clause-ticks : goal.returns-then-not-is_due-clause-ticks
returns-then-not-is_due-clause-ticks g c =
    let S : State = state_of c.args.s.now in
    sym (ap (λ (V : State). stepped V (seen c.args.s.now))
    (when-none c.args.moment S c.requires.sound.kept c.if-s.false
    (sym c.is_due.ensures ∙ c.if-not-is_due.true))
    ∙ stepped-same S (given_in c.args.s.now) (outgoing c.args.s.now))

pub tick_due-requires-clause-due : goal.tick_due-requires-clause-due
tick_due-requires-clause-due g c = sym c.is_due.ensures ∙ c.if-not-is_due.false
