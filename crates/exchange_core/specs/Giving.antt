-- Entries that leave memory, and those that are named still.
use Rattle.std.specs.Prelude.{◌≡◌, ◌⊎◌, ℕ, ◌+◌, ◌<◌, List, [], ◌∷◌, ◌++◌, drop, length, map, take, if◌then◌else◌}
use Rattle.std.specs.List.{flat_map}
use Rattle.observe_share.specs.declared.registration.Registration.{Registration}
use Rattle.resp_cache.specs.declared.pair.Pair.{Pair}
use Rattle.journal_book.specs.Entries.{Written}
use Rattle.journal_book.specs.Journals.{is_among, kept_after}
use Rattle.exchange_model.specs.declared.kept.Exchange.{Exchange}
use Rattle.exchange_model.specs.declared.kept.Piece.{Piece}
use Rattle.exchange_model.specs.declared.kept.Reader.{Reader}
use Rattle.exchange_model.specs.Here.{HasNumbers}
use Rattle.exchange_model.specs.State.{State}
use Rattle.exchange_model.specs.Room.{gives}
use Rattle.exchange_core.specs.Values.{CoreValue}

-- the last of these
abbrev pub last_in : List ℕ → List ℕ
last_in [] = []
last_in (n ∷ []) = n ∷ []
last_in (n ∷ m ∷ ns) = last_in (m ∷ ns)

-- What an exchange was opened for, and its opening, where that is to be what it registers for.
abbrev pub named_by : Exchange → List ℕ
named_by e = e.ask ∷ (if e.observes then e.opening ∷ [] else [])

abbrev pub number_of : Piece → ℕ
number_of x = x.number

abbrev pub ask_of : Reader → ℕ
ask_of r = r.ask

abbrev pub opening_of : Registration → ℕ
opening_of r = r.opening

abbrev pub last_of : Pair → List ℕ
last_of p = last_in p.stored.list

-- the entries that are looked up again
abbrev pub named : State → List ℕ
named S =
    flat_map named_by S.exchanges ++ (map number_of S.pieces ++ (map ask_of S.readers
    ++ (map opening_of S.watches ++ flat_map last_of S.store)))

-- In memory are too few entries for a segment; or numbers are spent.
abbrev pub GivesNone : State → Type 0
GivesNone S = (length S.entries < S.given + 1024) ⊎ (HasNumbers S → ⊥)

-- The next 1,024 entries left memory. Of these, and of those that left before, what is named is
-- kept, and nothing else.
pub record IsGivenOut (segment : List Written) (old new : CoreValue) : Type 0 where
  pub segment_is : segment ≡ take 1024 (drop old.state.given old.state.entries)
  pub numbers : List ℕ
  pub names : (n : ℕ) → is_among numbers n ≡ is_among (named old.state) n
  pub is : new ≡ record old {
    state = gives 1024 (kept_after old.state.given old.state.kept numbers) old.state;
  }
