use Rattle.history_links.proofs.Repeating.{repeat-agrees, garbled-agrees}
use Rattle.history_links.proofs.laws.unchanged_by.Goals as goal

pub returns-clause-repeats : goal.returns-clause-repeats
returns-clause-repeats c = repeat-agrees

pub returns-clause-garbled : goal.returns-clause-garbled
returns-clause-garbled c = garbled-agrees
