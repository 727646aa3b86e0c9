-- Which word is given, of bytes of the system that weren't given yet.
use Rattle.std.specs.Int.{w64, from_le_bytes}
use Rattle.std.specs.Prelude.{ℕ, List, [], Option, Some, None, ◌≡◌, ◌<◌, ◌≤◌, length, take, drop}

-- A word is the first eight bytes, and the others are left: no byte is in two words.
pub record Given (from left : List ℕ) (word : ℕ) : Type 0 where
  pub enough : 8 ≤ length from
  pub word_is : word ≡ from_le_bytes w64 (take 8 from)
  pub rest : left ≡ drop 8 from

-- A word comes of what was left, or, where that is no whole word, of 256 bytes that were filled
-- anew. Where the system gives none there is no word, and nothing is left that a later one could
-- come of.
abbrev pub Next : List ℕ → List ℕ → Option ℕ → Type 0
Next old new None = (length old < 8) × (new ≡ [])
Next old new (Some word) =
    (8 ≤ length old → Given old new word)
    × (length old < 8 → (filled : List ℕ) × ((length filled ≡ 256) × Given filled new word))
