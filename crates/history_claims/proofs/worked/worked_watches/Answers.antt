use Rattle.history_claims.proofs.Observed.{updated, outdated}
use Rattle.history_claims.proofs.worked.worked_watches.Goals as goal

pub returns-clause-updated : goal.returns-clause-updated
returns-clause-updated c = updated

pub returns-clause-outdated : goal.returns-clause-outdated
returns-clause-outdated c = outdated
