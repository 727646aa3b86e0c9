use Rattle.history_links.proofs.GoingOn.{goes-on-agrees}
use Rattle.history_links.proofs.Saying.{says-agrees}
use Rattle.history_links.proofs.laws.says_agrees.Goals as goal

pub returns-clause-ends : goal.returns-clause-ends
returns-clause-ends c = says-agrees

pub returns-clause-goes_on : goal.returns-clause-goes_on
returns-clause-goes_on c = goes-on-agrees
