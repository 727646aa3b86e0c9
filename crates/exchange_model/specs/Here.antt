-- What a call looks up later stands in memory, and a call gives nothing out.
use Rattle.std.specs.Prelude.{◌≡◌, ℕ, ◌+◌, ◌≤◌, List, length, None}
use Rattle.limits.specs.declared.TheConstants.{MAX_NUMBERED}
use Rattle.uri_map.specs.declared.peer.Peer.{Peer}
use Rattle.ask_model.specs.Views.{Ask}
use Rattle.journal_book.specs.Journals.{IsHere}
use Rattle.exchange_model.specs.State.{State}
use Rattle.exchange_model.specs.Memory.{AreNamed, Here}
use Rattle.exchange_model.specs.Hearing.{Numbers}
use Rattle.exchange_model.specs.Keeping.{start}
use Rattle.exchange_model.specs.Steps.{shuts}
use Rattle.exchange_model.specs.Room.{gives}
use Rattle.exchange_model.specs.Rotating.{fault_of, turned}
use Rattle.exchange_model.specs.Sealing.{opens_in_room, asks_in_room, hears_in_room, ticks_in_room}

-- A call gives nothing out, and looks up what was looked up before, or what it adds.
pub record IsHereStill (S S1 : State) : Type 0 where
  pub given : S1.given ≡ S.given
  pub kept : S1.kept ≡ S.kept
  pub here : Here S1

abbrev pub StartsHere : Type 0
StartsHere = Here start

abbrev pub OpensHere : Type 0
OpensHere = (t : ℕ) (S : State) → Here S → IsHereStill S (opens_in_room t S)

abbrev pub ShutsHere : Type 0
ShutsHere = (t c : ℕ) (S : State) → Here S → IsHereStill S (shuts t c S)

abbrev pub AsksHere : Type 0
AsksHere =
    (t c : ℕ) (a : Ask) (n : Numbers) (S : State) → Here S
    → IsHereStill S (asks_in_room t c a n S)

abbrev pub HearsHere : Type 0
HearsHere =
    (t : ℕ) (p : Peer) (d : List ℕ) (n : Numbers) (S : State) → Here S
    → IsHereStill S (hears_in_room t p d n S)

abbrev pub TicksHere : Type 0
TicksHere = (t : ℕ) (S : State) → Here S → IsHereStill S (ticks_in_room t S)

-- There are numbers left.
pub record HasNumbers (S : State) : Type 0 where
  pub given : S.given ≤ MAX_NUMBERED
  pub issued : S.issued ≤ MAX_NUMBERED
  pub opened : S.opened ≤ MAX_NUMBERED

-- Then entries may be given out, where what is looked up stands in memory after that.
abbrev pub GivesHere : Type 0
GivesHere =
    (n : ℕ) (ks : List ℕ) (S : State) → n ≤ 1024 → S.given + n ≤ length S.entries
    → HasNumbers S → AreNamed (IsHere (S.given + n) ks) S → Here (gives n ks S)

-- The journal after a turn stands in memory whole.
abbrev pub TurnsHere : Type 0
TurnsHere = (t : ℕ) (S : State) → fault_of t S ≡ None → Here (turned t S)
