use Rattle.history_claims.proofs.InUpdates.{both, rest-alone}
use Rattle.history_claims.proofs.worked.worked_updates.Goals as goal

pub returns-clause-both : goal.returns-clause-both
returns-clause-both c = both c.worked_updates.ensures.served

pub returns-clause-rest : goal.returns-clause-rest
returns-clause-rest c = rest-alone c.worked_updates.ensures.served
