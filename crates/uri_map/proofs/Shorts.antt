-- A short text, and the cells behind it.
use Rattle.std.proofs.Common.{◌≡◌, ℕ, ◌≤◌, true, List, ◌++◌, length, take, drop, IsUtf8, arith}
use Rattle.std.specs.Str.{is_utf8}
use Rattle.std.proofs.lemmas.List.{length-append, length-drop}
use Rattle.std.proofs.lemmas.Str.{is_utf8-from_IsUtf8}
use Rattle.std.proofs.Math.Seq.{take-append_seam}

pub short_is : (text copied zeros : List ℕ) → copied ≡ text → length text ≤ 23 → length zeros ≡ 23 → IsUtf8 text
    → (length text ≤ 23) × (length (copied ++ drop (length text) zeros) ≡ 23) × (is_utf8 (take (length text) (copied ++ drop (length text) zeros)) ≡ true)
short_is text copied zeros same few size utf8 =
    rw same (
      few,
      omega (arith, few, size, length-append text (drop (length text) zeros), length-drop (length text) zeros),
      rw (take-append_seam text (drop (length text) zeros)) (is_utf8-from_IsUtf8 text utf8),
    )
