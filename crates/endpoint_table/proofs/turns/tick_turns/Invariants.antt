use Rattle.std.proofs.Common.{◌≡◌, length, map, drop}
use Rattle.std.specs.Prelude.{vec_capacity}
use Rattle.message_layer.specs.Calls.{is_among}
use Rattle.exchange_model.specs.Entering.{link_after}
use Rattle.endpoint_table.specs.Dues.{AreDues}
use Rattle.endpoint_table.specs.Tables.{has_room, peer_link}
use Rattle.endpoint_table.specs.Turns.{AreTurns}
use Rattle.endpoint_table.proofs.Ticked.{AreDone}
use Rattle.endpoint_table.proofs.turns.tick_turns.Given as goal

abbrev pub invariant-each : goal.invariant-each
invariant-each l = record {
  done : AreDone (link_after l.moment (is_among l.gone)) l.place l.rows.items l.initial.rows.items;
  ready : AreTurns l.moment l.gone (map peer_link (drop l.place l.rows.items))
      (map has_room (drop l.place l.rows.items)) l.turns.items;
  dues : AreDues l.rows.items l.dues.items (vec_capacity l.dues);
  as_many : length l.rows.items ≡ length l.initial.rows.items;
}
