-- What is carried over a rotation is out of no write's reach.
use Rattle.std.specs.Prelude.{◌≡◌, ℕ, false}
use Rattle.std.specs.List.{Contains}
use Rattle.history_laws.specs.Joining.{outrun}
use Rattle.exchange_model.specs.State.{State}
use Rattle.exchange_model.specs.Keeping.{Kept}
use Rattle.exchange_model.specs.Rotating.{Backed, taken}

-- Of each stored response that is carried over, no write to its place has ended in the journal that
-- is given out since the ask that the response goes back to.
abbrev pub CarriesNothingOutrun : Type 0
CarriesNothingOutrun =
    (t : ℕ) (S : State) (k : Kept S) (b : Backed) → Contains (taken t S) b
    → outrun k.reading b.pair.key.place b.pair.stored.opening ≡ false
