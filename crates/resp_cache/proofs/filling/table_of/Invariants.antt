use Rattle.std.proofs.Common.{◌≡◌, ◌++◌, length}
use Rattle.resp_cache.specs.Tables.{IsTable, pairs_of}
use Rattle.resp_cache.proofs.filling.table_of.Given as goal

abbrev pub invariant-each : goal.invariant-each
invariant-each l = (l.pairs.items ++ pairs_of l.table ≡ l.fn.pairs.items) × IsTable l.table

abbrev pub decreases-each : goal.decreases-each
decreases-each l = length l.pairs.items
