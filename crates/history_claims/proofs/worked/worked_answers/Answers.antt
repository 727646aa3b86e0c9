use Rattle.history_claims.proofs.Examples.{answered}
use Rattle.history_claims.proofs.worked.worked_answers.Goals as goal

pub returns : goal.returns
returns c = answered
