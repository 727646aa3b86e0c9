-- The last message is that of the contents.
use Rattle.gateway_desk.proofs.Renewals.{ends-so}
use Rattle.gateway_desk.proofs.replies.ends_valid.Goals as goal

pub returns-in-Some : goal.returns-in-Some
returns-in-Some c = ends-so c.args.messages.now c.in-Some.last.now c.in-Some.ensures.value
