use Rattle.std.proofs.Common.{map, take}
use Rattle.endpoint_table.specs.Places.{HasNone}
use Rattle.endpoint_table.specs.Tables.{peer_link}
use Rattle.endpoint_table.proofs.hints.find_endpoint.Given as goal

abbrev pub invariant-each : goal.invariant-each
invariant-each l = HasNone l.peer (map peer_link (take l.place l.rows))
