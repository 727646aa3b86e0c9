-- How often the proxy looks at its timers, in a list of turns.
use Rattle.std.specs.Prelude.{ℕ, ◌+◌, ◌≤◌, List, [], ◌∷◌, ⊤}
use Rattle.gateway_model.specs.declared.input.Happening.{Happening}
use Rattle.gateway_model.specs.declared.input.Happening.TheVariants as H
use Rattle.gateway_world.specs.Worlds.{counted}
use Rattle.three_parties.specs.declared.TheConstants.{LONGEST_PAUSE}
use Rattle.three_parties.specs.declared.turn.Turn.{Turn}
use Rattle.three_parties.specs.declared.turn.Turn.TheVariants as T

-- the moment of a turn, where this is that of the turn before it
abbrev pub moment_in : ℕ → Turn → ℕ
moment_in last (T.Proxy i) = counted last i.moment
moment_in last (T.Device m) = counted last m
moment_in last (T.Deliver w n) = counted last w.moment

-- when the proxy looked at its timers last: in the turn of this moment, or before
abbrev pub looked_by : ℕ → Happening → ℕ → ℕ
looked_by t H.Tick old = t
looked_by t _ old = old

abbrev pub looked_in : ℕ → Turn → ℕ → ℕ
looked_in t (T.Proxy i) old = looked_by t i.happening old
looked_in t _ old = old

-- Each time it does so a second after the time before at the latest.
abbrev pub LooksEachSecond : ℕ → ℕ → List Turn → Type 0
LooksEachSecond last looked [] = ⊤
LooksEachSecond last looked (x ∷ xs) =
    let t = moment_in last x in let next = looked_in t x looked in
    (next ≤ looked + LONGEST_PAUSE) × LooksEachSecond t next xs

-- The first time it does so a second after the first turn at the latest.
abbrev pub LooksInTime : List Turn → Type 0
LooksInTime [] = ⊤
LooksInTime (x ∷ xs) = LooksEachSecond 0 (moment_in 0 x) (x ∷ xs)
