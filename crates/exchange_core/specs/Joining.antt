-- Asks that join an exchange.
use Rattle.std.specs.Prelude.{◌≡◌, ℕ, Option}
use Rattle.std.specs.List.{find}
use Rattle.ask_model.specs.Requests.{Sense}
use Rattle.ask_model.specs.Views.{Ask}
use Rattle.exchange_model.specs.declared.kept.Exchange.{Exchange}
use Rattle.exchange_model.specs.State.{State}
use Rattle.exchange_model.specs.Steps.{joins}
use Rattle.exchange_model.specs.Hearing.{Numbers}
use Rattle.exchange_model.specs.Calls.{asked}
use Rattle.exchange_model.specs.Room.{KeptInRoom}
use Rattle.exchange_model.specs.Sealing.{in_room}
use Rattle.exchange_table.specs.Joining.{is_joined_by}

-- the open exchange that an ask joins, if there is one
abbrev pub joined_for : Sense → State → Option Exchange
joined_for sense S = find (is_joined_by S.entries sense) S.exchanges

-- The ask reads along what the ask with this number opened, whatever its message would be sent
-- under, which keeps what a core keeps.
pub record MayJoin (t c : ℕ) (a : Ask) (opening : ℕ) (S : State) : Type 0 where
  pub is : (n : Numbers) → asked t c a n S ≡ joins t c a opening S
  pub kept : KeptInRoom (in_room t (joins t c a opening S) S)
