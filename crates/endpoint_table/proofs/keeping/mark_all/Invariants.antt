use Rattle.std.proofs.Common.{◌≡◌, map, take}
use Rattle.endpoint_table.specs.Keeping.{is_any}
use Rattle.endpoint_table.specs.Tables.{peer_link}
use Rattle.endpoint_table.proofs.keeping.mark_all.Given as goal

abbrev pub invariant-each : goal.invariant-each
invariant-each l = l.keeping ≡ map (is_any (take l.peer-index l.peers)) (map peer_link l.rows)
