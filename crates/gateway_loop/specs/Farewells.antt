-- Which connections take leave no more.
use Rattle.std.specs.Prelude.{◌≡◌, ◌⊎◌, ◌≤◌, ◌<◌, ◌+◌, min, ⊤, ℕ, List, [], ◌∷◌, length}
use Rattle.gateway_loop.specs.declared.farewells.TheConstants.{LONGEST_FAREWELL, MOST_FAREWELLS}
use Rattle.gateway_loop.specs.declared.farewells.Farewell.{Farewell}

-- A farewell lasts so long, and no longer than moments do.
abbrev pub end_of : ℕ → ℕ
end_of moment = min (moment + LONGEST_FAREWELL) 18446744073709551615

-- The first has this number.
abbrev pub BeginsWith : ℕ → List Farewell → Type 0
BeginsWith n [] = ⊥
BeginsWith n (f ∷ fs) = f.number ≡ n

-- The time of the first is over, or there are too many.
abbrev pub SomeIsOver : ℕ → List Farewell → Type 0
SomeIsOver moment [] = ⊥
SomeIsOver moment (f ∷ fs) = (f.until ≤ moment) ⊎ (MOST_FAREWELLS < length fs + 1)

-- The first has this number, and goes: its time is over, or there are too many.
abbrev pub IsOver : ℕ → ℕ → List Farewell → List Farewell → Type 0
IsOver n moment [] new = ⊥
IsOver n moment (f ∷ fs) new = (f.number ≡ n) × (new ≡ fs) × SomeIsOver moment (f ∷ fs)

-- The time of the first isn't over, and there aren't too many.
abbrev pub NoneIsOver : ℕ → List Farewell → Type 0
NoneIsOver moment [] = ⊤
NoneIsOver moment (f ∷ fs) = (moment < f.until) × (length fs < MOST_FAREWELLS)
