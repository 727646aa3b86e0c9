use Rattle.std.proofs.Common.{refl, sym}
use Rattle.exchange_progress.specs.declared.coming.Ended.TheVariants as How
use Rattle.message_layer.specs.Values.{was_reset}
use Rattle.exchange_model.specs.State.{State}
use Rattle.exchange_core.specs.States.{state_of}
use Rattle.exchange_core.proofs.MatterBy.{prepared-ends, prepared-nothing, reset-none, reset-some, found-in}
use Rattle.history_laws.proofs.CallerLemmas.{all-of}
use Rattle.exchange_table.specs.Asks.{IsAskedHere}
use Rattle.exchange_model.specs.Steps.{is_under}
use Rattle.exchange_core.proofs.ComesHere.{fault-counted}
use Rattle.exchange_core.proofs.matter.reset_of.Goals as goal

pub returns-clause-prepared : goal.returns-clause-prepared
returns-clause-prepared g c = λ t word token p link x fresh.
    let S : State = state_of c.args.s.now in
    let of = c.args.of.now in
    prepared-ends t word p link x (was_reset of) S token fresh c.in-Some.exchange.now (How.Found c.fault-finding.result)
    (reset-some c.len.result of x.token S c.in-Some.exchange.now (How.Found c.fault-finding.result) (sym c.in-Some.ensures) c.len.ensures
    ((λ sending r. c.fault-finding.ensures), refl))

pub returns-in_default-clause-prepared : goal.returns-in_default-clause-prepared
returns-in_default-clause-prepared g c = λ t word token p link x fresh.
    let S : State = state_of c.args.s.now in
    let of = c.args.of.now in
    prepared-nothing t word p link x (was_reset of) S token fresh (reset-none of x.token S (sym c.in_default.ensures))

pub returns-clause-here : goal.returns-clause-here
returns-clause-here g c =
    let journal = c.args.s.now.journal in
    let es = c.args.s.now.exchanges.exchanges in
    let e = c.in-Some.exchange.now in (
      all-of (IsAskedHere journal.given journal.kept) es e c.requires.here
          (found-in (is_under c.args.of.now) es e (sym c.in-Some.ensures)),
      fault-counted journal.given journal.kept c.fault-finding.result _ c.fault-finding.ensures tt,
    )
