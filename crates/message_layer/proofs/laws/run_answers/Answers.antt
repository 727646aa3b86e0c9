use Rattle.message_layer.proofs.AnswerLaws.{run-answers}
use Rattle.message_layer.proofs.laws.run_answers.Goals as goal

pub returns : goal.returns
returns c = run-answers
