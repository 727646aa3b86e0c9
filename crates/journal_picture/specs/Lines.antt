-- The lines that a journal was read from.
use Rattle.std.specs.Prelude.{ℕ, ◌≡◌, List, [], ◌∷◌, ◌++◌, flat_map, map}
use Rattle.journal_picture.specs.Saying.{SaysEntry}
use Rattle.journal_picture.specs.declared.entry.Line.{Line}
use Rattle.journal_picture.specs.declared.entry.Line.TheVariants.{Output, Entry}
use Rattle.journal_picture.specs.declared.journal.Journal.{Journal}

-- An output is kept as it is, and an entry is what its line says.
abbrev pub IsLine : Line → List ℕ → Type 0
IsLine (Output text told) line = text.now ≡ line
IsLine (Entry entry) line = (entry.line.now ≡ line) × SaysEntry entry line

-- each line, ended by LF
abbrev pub ended : List (List ℕ) → List ℕ
ended lines = flat_map (λ line. line ++ 10 ∷ []) lines

-- those of outputs, then those of entries
abbrev pub lines_in : Journal → List (List ℕ)
lines_in j = map (λ text. text.now) j.outputs.items ++ map (λ entry. entry.line.now) j.entries.items
