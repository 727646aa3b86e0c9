-- Asks that are answered in their own step.
use Rattle.std.specs.Prelude.{◌≡◌, ℕ, true}
use Rattle.ask_model.specs.declared.cause.Cause.{Cause}
use Rattle.ask_model.specs.Requests.{CoapRequest, Requests}
use Rattle.ask_model.specs.Views.{Ask}
use Rattle.exchange_model.specs.State.{State}
use Rattle.exchange_model.specs.Hearing.{Numbers}
use Rattle.exchange_model.specs.Calls.{has_place, IsAlone, asked}
use Rattle.exchange_model.specs.Entering.{refusal_deeds, entered_all}
use Rattle.exchange_model.specs.Room.{KeptInRoom}
use Rattle.exchange_model.specs.Watching.{touched}
use Rattle.exchange_model.specs.Sealing.{in_room}

-- the ask, and its answer
abbrev pub refused : ℕ → ℕ → Ask → Cause → State → State
refused t c a cause S = let S1 = entered_all t (refusal_deeds c a cause S) S in record S1 {
  watches = touched t a.sense S.watches;
}

-- The ask is answered so, whatever its message would be sent under, which keeps what a core keeps.
pub record MayRefuse (t c : ℕ) (a : Ask) (cause : Cause) (S : State) : Type 0 where
  pub is : (n : Numbers) → asked t c a n S ≡ refused t c a cause S
  pub kept : KeptInRoom (in_room t (refused t c a cause S) S)

-- It asks for nothing, or is served what is stored, or joins an exchange, or there is no place for
-- its own.
abbrev pub BeginsNothing : ℕ → Ask → State → Type 0
BeginsNothing t a S =
    (q : CoapRequest) → a.sense ≡ Requests q → IsAlone t q S → has_place t q.peer S ≡ true
    → ⊥
