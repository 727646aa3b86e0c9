use Rattle.std.proofs.Common.{Option, sym, ap, subst, ◌∙◌}
use Rattle.std.specs.Prelude.{is_some, IfSome}
use Rattle.message_layer.specs.declared.prepared.Submission.{Submission}
use Rattle.endpoint_table.specs.Tables.{link_at}
use Rattle.exchange_model.specs.State.{State}
use Rattle.exchange_core.specs.Matters.{IsNextFor}
use Rattle.exchange_core.specs.States.{state_of}
use Rattle.exchange_core.proofs.MatterBy.{asked-for, prepared-goes, prepared-turned, request-of}
use Rattle.exchange_core.proofs.matter.goes_on.Goals as goal

pub prepare_next-requires-clause-asked : goal.prepare_next-requires-clause-asked
prepare_next-requires-clause-asked g c = asked-for (state_of c.args.s.now) c.args.exchange.now c.requires.asked c.requires.open

pub returns-in-Some-clause-prepared : goal.returns-in-Some-clause-prepared
returns-in-Some-clause-prepared g c = λ said answered.
    let S : State = state_of c.args.s.now in
    let e = c.args.exchange.now in
    let x = c.args.heeding.now in
    let link = link_at c.args.s.now.endpoints c.args.peer.now in
    let q = request-of S.entries e (asked-for S e c.requires.asked c.requires.open) in
    prepared-goes c.args.moment c.args.word c.args.peer.now link x said S c.args.token.now c.requires.token
    e c.args.onward q.0 c.in-Some.submission c.requires.few c.requires.asked
    (sym c.in_ok-next.ensures.place ∙ ap (λ (o : Option Submission). is_some o) c.in-Some.is)
    q.1
    (subst (λ (o : Option Submission). IfSome o (IsNextFor c.args.moment c.args.word link x q.0 c.args.onward.block c.args.token.now)) c.in-Some.is
    (c.in_ok-next.ensures.next q.0 q.1))
    answered

pub returns-in-None-clause-prepared : goal.returns-in-None-clause-prepared
returns-in-None-clause-prepared g c = λ said answered.
    let S : State = state_of c.args.s.now in
    prepared-turned c.args.moment c.args.word c.args.peer.now (link_at c.args.s.now.endpoints c.args.peer.now) c.args.heeding.now said S c.args.token.now c.requires.token
    c.args.exchange.now c.args.onward
    (sym c.in_ok-next.ensures.place ∙ ap (λ (o : Option Submission). is_some o) c.in-None.is)
    answered

pub returns-in-None-clause-here : goal.returns-in-None-clause-here
returns-in-None-clause-here g c = (c.requires.here, tt)
