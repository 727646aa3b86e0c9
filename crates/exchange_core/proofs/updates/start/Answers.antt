use Rattle.std.proofs.Common.{Option, subst}
use Rattle.std.specs.Prelude.{IfSome}
use Rattle.message_layer.specs.declared.prepared.Submission.{Submission}
use Rattle.endpoint_table.specs.Tables.{link_at}
use Rattle.exchange_core.specs.Matters.{IsNextFor}
use Rattle.exchange_core.proofs.Started.{starts-as}
use Rattle.exchange_core.proofs.updates.start.Goals as goal

pub returns-clause-started : goal.returns-clause-started
returns-clause-started g c = λ q asked.
    let x = c.args.heeding.now in
    let link = link_at c.args.s.now.endpoints c.args.peer.now in (
      c.in-Some.submission,
      starts-as c.args.moment c.len-number.result _ c.args.peer.now c.args.watch.now c.in_ok-share.field-0 c.exchange_for-exchange.result c.args.onward c.args.token.now
          c.in-Some.submission c.in_ok-share.ensures c.exchange_for-exchange.ensures c.len-number.ensures,
      subst (λ (o : Option Submission). IfSome o (IsNextFor c.args.moment c.args.word link x q c.args.onward.block c.args.token.now)) c.in-Some.is
          (c.in_ok-submission.ensures.next q asked),
    )

pub returns-clause-here : goal.returns-clause-here
returns-clause-here g c = tt
