-- What a core was.
use Rattle.std.specs.Prelude.{◌≡◌, ℕ, List, ◌++◌, length}
use Rattle.limits.specs.declared.TheConstants.{MAX_ENTRIES}
use Rattle.journal_book.specs.Entries.{Written}
use Rattle.exchange_model.specs.State.{State}
use Rattle.exchange_core.specs.Values.{CoreValue, Outgoing}
use Rattle.exchange_core.specs.Answering.{Given}
use Rattle.exchange_core.specs.States.{core_of}
use Rattle.exchange_core.specs.Sound.{SoundState}

-- how many entries there were, and what they counted; a state without them; and what wasn't taken
pub record SnapshotValue : Type 0 where
  pub count : ℕ
  pub bytes : ℕ
  pub tables : State
  pub answers : List Given
  pub unsent : List Outgoing

-- the state that has these entries, of which so many were given out and these kept, and what the
-- snapshot holds
abbrev pub restored : List Written → ℕ → List ℕ → SnapshotValue → State
restored h given kept s = record s.tables { entries = h; given = given; kept = kept }

-- The snapshot was taken of this core: it shows it, but for its entries, with which it is sound.
pub record IsOf (s : SnapshotValue) (core : CoreValue) : Type 0 where
  pub count : s.count ≡ length core.state.entries
  pub shows : core_of (restored core.state.entries core.state.given core.state.kept s) s.answers
      s.unsent ≡ core
  pub sound : SoundState core.state s.bytes MAX_ENTRIES s.answers

-- Entries were only added.
abbrev pub Grows : List Written → List Written → Type 0
Grows old new = (more : List Written) × (new ≡ old ++ more)

-- A core may go back to the one that the snapshot was taken of: entries were only added since, and
-- none was given out.
pub record MayRestore (s : SnapshotValue) (now : CoreValue) : Type 0 where
  pub before : CoreValue
  pub taken : IsOf s before
  pub grows : Grows before.state.entries now.state.entries
  pub given : now.state.given ≡ before.state.given
  pub kept : now.state.kept ≡ before.state.kept
