-- What the type of a core keeps.
use Rattle.std.specs.Prelude.{◌≡◌, ℕ, ◌+◌, ◌≤◌, List, drop, length, sum_by}
use Rattle.std.specs.List.{AllByRecursion}
use Rattle.limits.specs.declared.TheConstants.{LAST_MOMENT, MAX_CONNECTIONS}
use Rattle.journal_book.specs.Entries.{entry_size}
use Rattle.exchange_model.specs.State.{State}
use Rattle.exchange_model.specs.Room.{KeptInRoom, seals_left}
use Rattle.exchange_model.specs.Entering.{IsDrained}
use Rattle.exchange_core.specs.declared.state.State.{State as RustState}
use Rattle.exchange_core.specs.Answering.{Given, IsGiven}
use Rattle.exchange_core.specs.States.{state_of, given_in}

-- What a journal that stands within its limits has in memory counts so many bytes, and it has a
-- place for the Shut of each connection and one for the Sealed; the answers that aren't taken stand
-- in it.
pub record SoundState (S : State) (bytes room : ℕ) (gs : List Given) : Type 0 where
  pub kept : KeptInRoom S
  pub drained : IsDrained S
  pub early : S.moment ≤ LAST_MOMENT
  pub few : length S.conns ≤ MAX_CONNECTIONS
  pub count : bytes ≡ sum_by entry_size (drop S.given S.entries)
  pub places : length S.conns + seals_left S.sealed ≤ room
  pub given : AllByRecursion (IsGiven S.entries) gs

abbrev pub IsSound : {R : Type 0} → RustState R → Type 0
IsSound s = SoundState (state_of s) s.bytes s.journal.room (given_in s)
