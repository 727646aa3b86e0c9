use Rattle.history_claims.proofs.InWorked.{asked-anew, asked-apart, served-again, waited}
use Rattle.history_claims.proofs.order.worked_once.Goals as goal

pub returns-clause-served : goal.returns-clause-served
returns-clause-served c = served-again

pub returns-clause-anew : goal.returns-clause-anew
returns-clause-anew c = asked-anew

pub returns-clause-waited : goal.returns-clause-waited
returns-clause-waited c = waited

pub returns-clause-apart : goal.returns-clause-apart
returns-clause-apart c = asked-apart
