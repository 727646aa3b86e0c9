-- Lists where those of one number stand together, and the numbers rise.
use Rattle.std.specs.Prelude.{◌≡◌, ℕ, ◌≤◌, ◌<◌, Bool, ◌==◌, ◌&&◌, ◌||◌, nat_lt, not, List, [], ◌∷◌, length, take, drop, filter, ⊤}
use Rattle.std.specs.List.{AllByRecursion}

-- None of these numbers of theirs is below one before it.
abbrev pub Ascend : {X : Type 0} → (X → ℕ) → List X → Type 0
Ascend n [] = ⊤
Ascend n (x ∷ xs) = AllByRecursion (λ y. n x ≤ n y) xs × Ascend n xs

-- its number is this
abbrev pub is_by : {X : Type 0} → (X → ℕ) → ℕ → X → Bool
is_by n k x = n x == k

-- its number is another
abbrev pub is_beside : {X : Type 0} → (X → ℕ) → ℕ → X → Bool
is_beside n k x = not (is_by n k x)

-- It stands before those of this number, or among them with a lower second number than this.
abbrev pub is_before : {X : Type 0} → (X → ℕ) → (X → ℕ) → ℕ → ℕ → X → Bool
is_before n m k l x = nat_lt (n x) k || (is_by n k x && nat_lt (m x) l)

-- The groups have the same ones: those of one number stand together, in the same order, and the
-- groups in the order of the numbers.
pub record AreGrouped {X : Type 0} (n : X → ℕ) (xs groups : List X) : Type 0 where
  pub order : Ascend n groups
  pub same : (k : ℕ) → filter (is_by n k) groups ≡ filter (is_by n k) xs

-- Those before this place have lower numbers, and no other does.
pub record IsFirstFrom {X : Type 0} (n : X → ℕ) (k : ℕ) (xs : List X) (i : ℕ) : Type 0 where
  pub within : i ≤ length xs
  pub before : AllByRecursion (λ x. n x < k) (take i xs)
  pub from : AllByRecursion (λ x. k ≤ n x) (drop i xs)
