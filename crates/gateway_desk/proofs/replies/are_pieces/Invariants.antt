use Rattle.std.proofs.Common.{map, drop}
use Rattle.coap_codec.specs.Spelling.{content}
use Rattle.gateway_desk.proofs.Whole.{Follows}
use Rattle.gateway_desk.proofs.replies.are_pieces.Given as goal

abbrev pub invariant-each : goal.invariant-each
invariant-each l = Follows l.pieces (map content l.messages) (map content (drop l.i l.messages))
