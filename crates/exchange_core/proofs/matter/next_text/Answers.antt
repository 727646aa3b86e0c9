use Rattle.ask_model.specs.Datagrams.{block_named}
use Rattle.exchange_core.proofs.MatterBy.{sent-unnumbered}
use Rattle.exchange_core.proofs.matter.next_text.Goals as goal

pub returns-clause-message : goal.returns-clause-message
returns-clause-message g c =
    let sense = c.in-Some.mapped.now.sense in
    sent-unnumbered sense (block_named sense c.args.block) c.args.token.now c.in-Some-2.text (rw c.in-Some-2.is at c.in_ok-text.ensures.sent)
