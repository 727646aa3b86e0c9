-- What a turn of the journal gives out and leaves, and why it is refused.
use Rattle.std.specs.Prelude.{◌≡◌, ◌⊎◌, ℕ, List, [], Option, Some, None, Ok}
use Rattle.journal_book.specs.Entries.{Written}
use Rattle.exchange_model.specs.State.{State}
use Rattle.exchange_model.specs.Rotating.{RotateFault, Unsealed, Given, Connected, Exchanging, Spent, Crowded, fault_of, rotated}
use Rattle.exchange_core.specs.declared.fault.RotateFault.{RotateFault as Refusal}
use Rattle.exchange_core.specs.declared.fault.RotateFault.TheVariants as F
use Rattle.exchange_core.specs.Values.{CoreValue}

-- What is given out stood before, and the next journal begins with copies of it. Nothing is to be
-- taken any more.
pub record IsTurned (t : ℕ) (given : List Written) (old new : CoreValue) : Type 0 where
  pub is : rotated t old.state ≡ Ok (given, new.state)
  pub untaken : new.untaken ≡ []
  pub unsent : new.unsent ≡ []

abbrev pub fault_in : Refusal → Option RotateFault
fault_in F.Unsealed = Some Unsealed
fault_in F.Given = Some Given
fault_in F.Connected = Some Connected
fault_in F.Exchanging = Some Exchanging
fault_in F.Spent = Some Spent
fault_in F.Crowded = Some Crowded
fault_in F.Memory = None

-- It is refused for this, the first reason that there is. Memory is wanted only where all that is
-- known without it allows the turn.
abbrev pub IsRefused : ℕ → State → Refusal → Type 0
IsRefused t S F.Memory = (fault_of t S ≡ None) ⊎ (fault_of t S ≡ Some Crowded)
IsRefused t S fault = fault_of t S ≡ fault_in fault
