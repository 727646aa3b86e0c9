-- Places in a list whose numbers rise.
use Rattle.std.specs.Prelude.{◌≡◌, ℕ, ◌<◌, Bool, true, false, List, [], ◌∷◌, zero, suc, ⊤}
use Rattle.std.specs.List.{AllByRecursion}

-- These numbers of theirs rise.
abbrev pub RiseBy : {X : Type 0} → (X → ℕ) → List X → Type 0
RiseBy n [] = ⊤
RiseBy n (x ∷ xs) = AllByRecursion (λ y. n x < n y) xs × RiseBy n xs

-- None passes the test.
abbrev pub IsNowhere : {X : Type 0} → (X → Bool) → List X → Type 0
IsNowhere q xs = AllByRecursion (λ x. q x ≡ false) xs

-- The one in this place passes the test, and no other.
abbrev pub IsOnlyAt : {X : Type 0} → (X → Bool) → List X → ℕ → Type 0
IsOnlyAt q [] i = ⊥
IsOnlyAt q (x ∷ xs) zero = (q x ≡ true) × IsNowhere q xs
IsOnlyAt q (x ∷ xs) (suc i) = (q x ≡ false) × IsOnlyAt q xs i
