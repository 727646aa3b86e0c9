-- Which pairs are carried over, and how they name what they rest on.
use Rattle.std.specs.Prelude.{◌≡◌, ℕ, ◌+◌, Bool, true, false, List, [], ◌∷◌, ◌++◌, get_or, map, Option, Some, None}
use Rattle.journal_book.specs.Entries.{Written}
use Rattle.journal_book.specs.declared.entry.Mark.{Mark as RustMark}
use Rattle.resp_cache.specs.Stored.{is_fresh}
use Rattle.resp_cache.specs.declared.pair.Pair.{Pair}
use Rattle.exchange_model.specs.Rotating.{Backed, backed_if, carried_numbers, few_of}
use Rattle.journal_copies.specs.declared.marks.Marks.{Marks}
use Rattle.journal_copies.specs.declared.places.Places.{Places}
use Rattle.journal_copies.specs.declared.taking.Choice.{Choice}
use Rattle.journal_copies.specs.declared.taking.Taken.{Taken}
use Rattle.journal_copies.specs.Marking.{AreMarks, count_some, one_of}

abbrev pub taken_as : Taken → Backed
taken_as x = record { pair = x.pair; numbers = x.numbers.items }

abbrev pub all_taken : Choice → List Backed
all_taken c = map taken_as c.taken.items

-- those of these pairs that are fresh at this moment, and whose replies are traced
abbrev pub backed_in : ℕ → List Written → List Pair → List Backed
backed_in t ws [] = []
backed_in t ws (p ∷ ps) = backed_if (is_fresh t p.stored) ws p ++ backed_in t ws ps

-- those that are carried over, and what is copied for them
abbrev pub few_in : ℕ → List Written → List Pair → List Backed
few_in t ws ps = few_of t ws [] (backed_in t ws ps)

abbrev pub numbers_in : ℕ → List Written → List Pair → List ℕ
numbers_in t ws ps = carried_numbers (few_in t ws ps)

-- These are taken so far, and what they rest on is marked.
pub record IsChoice (t : ℕ) (ws : List Written) (trial : Marks) (c : Choice) : Type 0 where
  pub tried : AreMarks t ws (carried_numbers (all_taken c)) trial
  pub marks : AreMarks t ws (carried_numbers (all_taken c)) c.marks

-- what is taken where these come next
abbrev pub taken_with : ℕ → List Written → List Backed → Choice → List Backed
taken_with t ws bs c = all_taken c ++ few_of t ws (carried_numbers (all_taken c)) bs

-- A pair was looked at before these. More may be taken, or this is all.
abbrev pub GoesOn : ℕ → List Written → List Backed → Pair → Choice → Marks → Choice → Bool → Type 0
GoesOn t ws bs p old trial new true =
    IsChoice t ws trial new
    × (taken_with t ws (backed_if (is_fresh t p.stored) ws p ++ bs) old ≡ taken_with t ws bs new)
GoesOn t ws bs p old trial new false =
    AreMarks t ws (carried_numbers (all_taken new)) new.marks
    × (taken_with t ws (backed_if (is_fresh t p.stored) ws p ++ bs) old ≡ all_taken new)

-- where the copy of an entry stands that comes after so many, of so many
abbrev pub place_by : Option RustMark → ℕ → ℕ → ℕ
place_by (Some mark) next count = next
place_by None next count = count

abbrev pub places_from : ℕ → ℕ → List (Option RustMark) → List ℕ
places_from next count [] = []
places_from next count (m ∷ ms) = place_by m next count ∷ places_from (next + one_of m) count ms

pub record ArePlaces (ms : List (Option RustMark)) (x : Places) : Type 0 where
  pub count : x.count ≡ count_some ms
  pub places : x.places.items ≡ places_from 0 x.count ms

abbrev pub place_in : Places → ℕ → ℕ
place_in x n = get_or x.places.items n x.count

abbrev pub moved_pair : (ℕ → ℕ) → Pair → Pair
moved_pair f p = record {
  key = p.key;
  stored = record p.stored { opening = f p.stored.opening; list = map f p.stored.list };
}
