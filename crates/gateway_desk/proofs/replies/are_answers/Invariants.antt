use Rattle.std.proofs.Common.{length}
use Rattle.gateway_desk.proofs.Whole.{AnswersAt}
use Rattle.gateway_desk.proofs.replies.are_answers.Given as goal

abbrev pub invariant-each : goal.invariant-each
invariant-each l = AnswersAt (length l.body) l.upload l.messages l.i
