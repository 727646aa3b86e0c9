use Rattle.std.proofs.Common.{rules}
use Rattle.code_map.proofs.method.Method.is_write.Goals as goal

pub returns-in-Get : goal.returns-in-Get
returns-in-Get c = search rules
