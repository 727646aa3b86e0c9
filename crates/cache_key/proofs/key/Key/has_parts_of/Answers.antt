use Rattle.std.proofs.Common.{rules}
use Rattle.cache_key.proofs.key.Key.has_parts_of.Goals as goal

pub returns-then-eq : goal.returns-then-eq
returns-then-eq c = search rules
