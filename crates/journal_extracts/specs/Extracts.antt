-- Entries of a journal that are copied for who looks at it.
use Rattle.std.specs.Prelude.{◌≡◌, ◌≤◌, ◌<◌, ℕ, Bool, ◌||◌, List, [], ◌∷◌, Option, Some, None, length, map, max, nat_le, take, drop, slice_get, if◌then◌else◌}
use Rattle.std.specs.List.{flat_map}
use Rattle.journal_book.specs.Entries.{Written}
use Rattle.journal_book.specs.Journals.{JournalValue, is_among}
use Rattle.journal_book.specs.Views.{item_of}
use Rattle.journal_extracts.specs.declared.extract.Extract.{Extract}
use Rattle.journal_extracts.specs.declared.extract.Numbered.{Numbered}

-- The entries from this number on, or from the first that wasn't given out, in order: 256 at most,
-- and at least one if there is one.
pub record IsExtract {R : Type 0} (j : JournalValue) (from : ℕ) (x : Extract R) : Type 0 where
  pub total : x.total ≡ length j.entries
  pub first : x.first ≡ max from j.given
  pub entries : map item_of x.entries.items ≡ take (length x.entries.items) (drop x.first j.entries)
  pub few : length x.entries.items ≤ 256
  pub some : x.first < length j.entries → 0 < length x.entries.items

-- an entry and its number
pub record Place : Type 0 where
  pub number : ℕ
  pub entry : Written

abbrev pub place_of : {R : Type 0} → Numbered R → Place
place_of p = record { number = p.number; entry = item_of p.entry }

abbrev pub placed : ℕ → Option Written → List Place
placed n None = []
placed n (Some w) = record { number = n; entry = w } ∷ []

-- the entry with this number, unless it was given out and isn't kept
abbrev pub is_here : JournalValue → ℕ → Bool
is_here j n = nat_le j.given n || is_among j.kept n

abbrev pub entry_at : JournalValue → ℕ → List Place
entry_at j n = if is_here j n then placed n (slice_get j.entries n) else []

-- those with these numbers, in the order of the numbers
abbrev pub entries_at : JournalValue → List ℕ → List Place
entries_at j ns = flat_map (entry_at j) ns

-- Each is an entry of the journal with the number that it bears, and they are 256 at most.
abbrev pub ArePlaced : {R : Type 0} → JournalValue → List (Numbered R) → Type 0
ArePlaced j ps = ((ns : List ℕ) × (map place_of ps ≡ entries_at j ns)) × (length ps ≤ 256)
