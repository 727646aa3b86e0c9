-- The sealed journal is given out, and the proxy goes on with one that begins with copies of its
-- entries. Nobody is connected then, so nothing more follows.
use Rattle.std.specs.Prelude.{◌≡◌, ◌⊎◌, ℕ, List, [], ◌∷◌, Some, Err}
use Rattle.exchange_model.specs.Rotating.{RotateFault, rotated}
use Rattle.exchange_core.specs.declared.fault.RotateFault.{RotateFault as Refusal}
use Rattle.exchange_core.specs.Rotating.{IsTurned, fault_in}
use Rattle.exchange_core.specs.Values.{CoreValue}
use Rattle.gateway_model.specs.Emissions.{Emission, Rotated, Unrotated}

-- The journal is given out at this moment.
pub record IsRotated (t : ℕ) (old : CoreValue) (out : List Emission) (new : CoreValue)
    : Type 0 where
  pub turned : IsTurned t old.state.entries old new
  pub given : out ≡ Rotated old.state.entries ∷ []

-- It isn't, for the first reason that there is, and nothing changes.
pub record IsUnrotated (t : ℕ) (old : CoreValue) (out : List Emission) (new : CoreValue)
    : Type 0 where
  pub why : RotateFault
  pub is : rotated t old.state ≡ Err why
  pub same : new ≡ old
  pub fault : Refusal
  pub named : fault_in fault ≡ Some why
  pub given : out ≡ Unrotated fault ∷ []

abbrev pub Rotates : ℕ → CoreValue → List Emission → CoreValue → Type 0
Rotates t old out new = IsRotated t old out new ⊎ IsUnrotated t old out new
