use Rattle.std.proofs.Common.{◌≡◌, map, take}
use Rattle.endpoint_table.specs.Tables.{peer_link}
use Rattle.endpoint_table.proofs.rows.copy_rows.Given as goal

abbrev pub invariant-each : goal.invariant-each
invariant-each l = map peer_link l.copy.items ≡ map peer_link (take l.row-index l.rows)
