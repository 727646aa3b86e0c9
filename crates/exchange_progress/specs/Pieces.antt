-- Pieces whose entries can be read in a journal of which so many entries were given out, and these
-- kept.
use Rattle.std.specs.Prelude.{ℕ, List}
use Rattle.journal_book.specs.Journals.{IsHere}
use Rattle.exchange_model.specs.declared.kept.Piece.{Piece}

abbrev pub IsPieceHere : ℕ → List ℕ → Piece → Type 0
IsPieceHere given kept x = IsHere given kept x.number
