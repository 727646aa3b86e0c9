use Rattle.std.proofs.Common.{◌≡◌, ◌++◌, length, false}
use Rattle.transformers.specs.Told.{pieces_text}
use Rattle.transformers.proofs.text.put_pieces.Given as goal

abbrev pub decreases-each : goal.decreases-each
decreases-each l = length l.left

abbrev pub invariant-each : goal.invariant-each
invariant-each l =
    l.out.items ++ pieces_text l.later l.left ≡ l.initial.out.items ++ pieces_text false l.pieces.entries
