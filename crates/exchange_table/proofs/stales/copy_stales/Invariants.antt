use Rattle.std.proofs.Common.{◌≡◌, take}
use Rattle.exchange_table.proofs.stales.copy_stales.Given as goal

abbrev pub invariant-each : goal.invariant-each
invariant-each l = l.copies.items ≡ take l.stale-index l.stales
