-- The pieces that open exchanges have fetched.
use Rattle.std.specs.Prelude.{◌≡◌, ℕ, Bool, not, ◌==◌, List}
use Rattle.std.specs.List.{list_any}
use Rattle.exchange_model.specs.declared.kept.Exchange.{Exchange}
use Rattle.exchange_model.specs.declared.kept.Piece.{Piece}
use Rattle.exchange_model.specs.Matters.{is_piece_of}
use Rattle.exchange_table.specs.Places.{RiseBy}
use Rattle.exchange_table.specs.Tables.{is_opened_at}

-- the pieces, in the order of the entries in which they were heard, and whether one more can be
-- noted without memory
pub record FetchedValue : Type 0 where
  pub pieces : List Piece
  pub room : Bool

-- a piece of any other exchange than the one that this entry opened
abbrev pub is_not_of : ℕ → Piece → Bool
is_not_of o x = not (is_piece_of o x)

abbrev pub itself : ℕ → ℕ
itself n = n

abbrev pub is_number : ℕ → ℕ → Bool
is_number n m = m == n

-- none of these exchanges has this opening
abbrev pub is_of_another : List Exchange → ℕ → Bool
is_of_another es o = not (list_any (is_opened_at o) es)

-- The owners are the openings of the exchanges that a piece is of, in order.
pub record AreOwned (xs : List Piece) (owners : List ℕ) : Type 0 where
  pub order : RiseBy itself owners
  pub each : (o : ℕ) → list_any (is_number o) owners ≡ list_any (is_piece_of o) xs
