use Rattle.history_claims.proofs.Causes.{names-cause}
use Rattle.history_claims.proofs.laws.names_cause.Goals as goal

pub returns : goal.returns
returns c = names-cause
