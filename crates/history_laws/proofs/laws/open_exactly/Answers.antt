use Rattle.history_laws.proofs.Openings.{open-exactly, ends-first}
use Rattle.history_laws.proofs.Ended.{none-after-end}
use Rattle.history_laws.proofs.laws.open_exactly.Goals as goal

pub returns-clause-open_ones : goal.returns-clause-open_ones
returns-clause-open_ones c = open-exactly

pub returns-clause-first : goal.returns-clause-first
returns-clause-first c = ends-first

pub returns-clause-none_after : goal.returns-clause-none_after
returns-clause-none_after c = none-after-end
