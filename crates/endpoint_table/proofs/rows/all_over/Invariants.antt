-- Of each that was looked at nothing is outstanding.
use Rattle.std.specs.Prelude.{◌≡◌, drop}
use Rattle.std.specs.List.{list_all}
use Rattle.message_layer.specs.Sending.{is_over_by}
use Rattle.endpoint_table.specs.Tables.{peer_link}
use Rattle.endpoint_table.proofs.rows.all_over.Given as goal

abbrev pub invariant-each : goal.invariant-each
invariant-each l =
    list_all (λ x. is_over_by l.moment (peer_link x).link.outstanding) l.rows
    ≡ list_all (λ x. is_over_by l.moment (peer_link x).link.outstanding) (drop l.x-index l.rows)
