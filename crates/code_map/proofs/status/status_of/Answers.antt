use Rattle.std.proofs.Common.{rules}
use Rattle.code_map.proofs.status.status_of.Goals as goal

pub returns-then-has_body-clause-table : goal.returns-then-has_body-clause-table
returns-then-has_body-clause-table c = search rules
