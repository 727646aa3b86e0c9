-- The entries of a journal in segments, each of which has places for 1,024.
use Rattle.std.specs.Prelude.{◌≡◌, ◌≤◌, ◌-◌, ℕ, List, [], ◌∷◌, ◌++◌, map, length, min, vec_capacity}
use Rattle.std.specs.declared.alloc.Global.{Global}
use Rattle.std.specs.declared.vec.Vec.{Vec}
use Rattle.journal_book.specs.Entries.{Written}
use Rattle.journal_book.specs.Views.{item_of}
use Rattle.journal_book.specs.declared.entry.Entry.{Entry}

-- the segments hold so many entries: those before are full, those behind are empty
abbrev pub AreFilled : {R : Type 0} → List (Vec (Entry R) Global) → ℕ → Type 0
AreFilled [] n = n ≡ 0
AreFilled (s ∷ ss) n = (length s.items ≡ min n 1024) × (1024 ≤ vec_capacity s)
    × AreFilled ss (n - 1024)

-- their entries, one segment after another
abbrev pub entries_in : {R : Type 0} → List (Vec (Entry R) Global) → List Written
entries_in [] = []
entries_in (s ∷ ss) = map item_of s.items ++ entries_in ss
