-- What outputs do to the connections.
use Rattle.std.specs.Prelude.{◌≡◌, ◌≢◌, ℕ, List, [], ◌∷◌, ◌++◌, flat_map, Option}
use Rattle.gateway_model.specs.Emissions.{Emission, Says, Closed, GivenUp}
use Rattle.gateway_model.specs.Told.{said_to}
use Rattle.gateway_loop.specs.Clients.{ClientValue}
use Rattle.gateway_loop.specs.Places.{EachKept}
use Rattle.gateway_loop.specs.Serving.{said}

-- what is given out for it is left to be written
abbrev pub given_to : {S : Type 0} → ℕ → List Emission → ClientValue S → ClientValue S
given_to c out x = record x { left = x.left ++ said c out }

-- Each gets what is given out for it.
abbrev pub IsGiven : {S : Type 0} → List Emission → ℕ → ClientValue S → ClientValue S → Type 0
IsGiven out c x y = y ≡ given_to c out x

-- Only one for which bytes are given out may be gone: memory is refused to keep them.
abbrev pub IsLost : {S : Type 0} → List Emission → ℕ → ClientValue S → Type 0
IsLost out c x = said_to c out ≢ []

abbrev pub AreGiven : {S : Type 0} → List Emission → List (Option (ClientValue S))
    → List (Option (ClientValue S)) → Type 0
AreGiven {S} out old new = EachKept (IsGiven {S = S} out) (IsLost {S = S} out) old new

-- those that have something to do after this
abbrev pub readied_by : Emission → List ℕ
readied_by (Says c bytes) = c ∷ []
readied_by (Closed c) = c ∷ []
readied_by (GivenUp c) = c ∷ []
readied_by _ = []

abbrev pub readied : List Emission → List ℕ
readied out = flat_map readied_by out
