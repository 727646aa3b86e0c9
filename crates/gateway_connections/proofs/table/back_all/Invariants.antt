-- So far it is done to those that were passed.
use Rattle.std.proofs.Common.{◌≡◌, ◌++◌, map, take, drop, vec_len}
use Rattle.gateway_connections.specs.Rows.{put_back}
use Rattle.gateway_connections.proofs.table.back_all.Given as goal

abbrev pub invariant-each : goal.invariant-each
invariant-each l =
    (l.rows.items ≡ map put_back (take l.place l.initial.rows.items) ++ drop l.place l.initial.rows.items) × (vec_len l.rows ≡ vec_len l.initial.rows)
