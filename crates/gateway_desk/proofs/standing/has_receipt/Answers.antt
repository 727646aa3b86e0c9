use Rattle.std.proofs.Common.{rules}
use Rattle.gateway_desk.proofs.standing.has_receipt.Goals as goal

pub returns-then-answers : goal.returns-then-answers
returns-then-answers g c = search rules
