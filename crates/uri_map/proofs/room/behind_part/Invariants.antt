use Rattle.std.proofs.Common.{◌≡◌}
use Rattle.uri_map.specs.Steps.{◌>>=◌, option_view}
use Rattle.uri_map.specs.Splitting.{pieces}
use Rattle.uri_map.specs.Escapes.{texts_at, part_at, separator}
use Rattle.uri_map.specs.Limits.{number}
use Rattle.uri_map.specs.Rooms.{rooms_behind}
use Rattle.uri_map.specs.Scanning.{left_len}
use Rattle.uri_map.proofs.TextLists.{SameFault}
use Rattle.uri_map.proofs.room.behind_part.Given as goal

abbrev pub invariant-each : goal.invariant-each
invariant-each l = record {
  read : SameFault (texts_at l.part (pieces (separator l.part) (option_view l.left))) (part_at l.part (option_view l.text));
  room : (l.room >>= rooms_behind (number l.part) (pieces (separator l.part) (option_view l.left))) ≡ (l.fn.before >>= rooms_behind (number l.part) (pieces (separator l.part) (option_view l.text)));
}

abbrev pub decreases-each : goal.decreases-each
decreases-each l = left_len (option_view l.left)
