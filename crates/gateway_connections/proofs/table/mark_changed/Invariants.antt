-- So far it is done to those that were passed.
use Rattle.std.proofs.Common.{◌≡◌, ◌++◌, map, take, drop, vec_len}
use Rattle.gateway_connections.specs.Rows.{settled}
use Rattle.gateway_connections.proofs.table.mark_changed.Given as goal

abbrev pub invariant-each : goal.invariant-each
invariant-each l =
    (l.rows.items ≡ map settled (take l.place l.initial.rows.items) ++ drop l.place l.initial.rows.items) × (vec_len l.rows ≡ vec_len l.initial.rows)
