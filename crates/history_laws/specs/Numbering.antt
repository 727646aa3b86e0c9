-- The number that a token bears.
use Rattle.std.specs.Prelude.{ℕ, ◌+◌, ◌*◌, List, ◌∷◌}

-- A token begins with the number of those that were issued before it.
abbrev pub token_number : List ℕ → ℕ
token_number (a ∷ b ∷ c ∷ d ∷ more) = 16777216 * a + 65536 * b + 256 * c + d
token_number _ = 0
