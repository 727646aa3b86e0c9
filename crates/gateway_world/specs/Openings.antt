-- Which connection an input opens.
use Rattle.std.specs.Prelude.{◌≡◌, ℕ, ◌+◌, List, [], ◌∷◌, ◌++◌, Option, Some, None}
use Rattle.exchange_core.specs.Values.{CoreValue}
use Rattle.gateway_model.specs.declared.input.Happening.{Happening}
use Rattle.gateway_model.specs.declared.input.Happening.TheVariants as H
use Rattle.gateway_model.specs.Emissions.{Emission, Turned}

-- Where a client wants a connection, that with the next number opens, and nothing is given out; or
-- the client is turned away. Nothing else opens one.
abbrev pub IsOpening : Happening → Option ℕ → ℕ → List Emission → List Emission → Type 0
IsOpening x (Some c) next before after = (x ≡ H.Open) × (c ≡ next) × (after ≡ before)
IsOpening x None next before after = x ≡ H.Open → after ≡ before ++ Turned ∷ []

-- A connection opened at an input for one: it has the number that was next, and the next is one
-- more; or none did, and the next is the same.
abbrev pub IsCounted : Happening → Option ℕ → CoreValue → CoreValue → Type 0
IsCounted x (Some c) old new =
    (x ≡ H.Open) × (c ≡ old.state.opened) × (new.state.opened ≡ c + 1)
IsCounted x None old new = new.state.opened ≡ old.state.opened
