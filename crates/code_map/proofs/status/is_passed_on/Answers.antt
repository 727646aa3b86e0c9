use Rattle.std.proofs.Common.{rules}
use Rattle.code_map.proofs.status.is_passed_on.Goals as goal

pub returns-in-2-default-2 : goal.returns-in-2-default-2
returns-in-2-default-2 c = search rules
