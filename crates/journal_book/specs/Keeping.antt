-- Entries that were given out and are kept, each with its number.
use Rattle.std.specs.Prelude.{◌≡◌, ℕ, List, [], ◌∷◌, map, Some, slice_get, ⊤}
use Rattle.journal_book.specs.Entries.{Written}
use Rattle.journal_book.specs.Views.{item_of}
use Rattle.journal_book.specs.declared.kept.KeptEntry.{KeptEntry}

abbrev pub number_of : {R : Type 0} → KeptEntry R → ℕ
number_of k = k.number

abbrev pub numbers_in : {R : Type 0} → List (KeptEntry R) → List ℕ
numbers_in ks = map number_of ks

-- Each is the entry with its number.
abbrev pub AreOf : {R : Type 0} → List Written → List (KeptEntry R) → Type 0
AreOf ws [] = ⊤
AreOf ws (k ∷ ks) = (slice_get ws k.number ≡ Some (item_of k.entry)) × AreOf ws ks
