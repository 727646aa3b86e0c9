use Rattle.history_laws.proofs.Begun.{begun-by-notices}
use Rattle.history_laws.proofs.Watching.{observed-asked, watches-few}
use Rattle.history_laws.proofs.laws.observed_as_asked.Goals as goal

pub returns-clause-asked : goal.returns-clause-asked
returns-clause-asked c = observed-asked

pub returns-clause-few : goal.returns-clause-few
returns-clause-few c = watches-few

pub returns-clause-begun : goal.returns-clause-begun
returns-clause-begun c = begun-by-notices
