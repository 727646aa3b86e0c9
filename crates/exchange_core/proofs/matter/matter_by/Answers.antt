use Rattle.std.proofs.Common.{length, subst}
use Rattle.endpoint_table.specs.Tables.{link_at}
use Rattle.exchange_model.specs.State.{State}
use Rattle.exchange_progress.specs.declared.coming.Coming.{Coming}
use Rattle.exchange_core.specs.Matters.{IsAnsweredSo, answer_in}
use Rattle.exchange_core.specs.States.{state_of}
use Rattle.exchange_core.proofs.MatterBy.{prepared-ends}
use Rattle.exchange_core.specs.Reading.{IsComingHere}
use Rattle.exchange_core.proofs.matter.matter_by.Goals as goal

pub returns-in-Ends-clause-prepared : goal.returns-in-Ends-clause-prepared
returns-in-Ends-clause-prepared g c = λ said answered.
    let S : State = state_of c.args.s.now in
    let e = c.args.exchange.now in
    let x = c.args.heeding.now in
    prepared-ends c.args.moment c.args.word c.args.peer.now (link_at c.args.s.now.endpoints c.args.peer.now) x said S c.args.token.now c.requires.token
    e c.in-Ends.ended
    (subst (λ (k : Coming). IsAnsweredSo (length S.entries) e k (answer_in said x.token S)) c.in-Ends.is answered)

pub returns-in-Goes-clause-prepared : goal.returns-in-Goes-clause-prepared
returns-in-Goes-clause-prepared g c = λ said answered.
    let S : State = state_of c.args.s.now in
    c.goes_on.ensures.prepared said
    (subst (λ (k : Coming). IsAnsweredSo (length S.entries) c.args.exchange.now k (answer_in said c.args.heeding.now.token S)) c.in-Goes.is answered)

pub returns-in-Ends-clause-here : goal.returns-in-Ends-clause-here
returns-in-Ends-clause-here g c = (
  c.requires.here,
  subst (IsComingHere c.args.s.now.journal.given c.args.s.now.journal.kept) c.in-Ends.is c.requires.coming,
)
