-- What entries count, but for the first ones.
use Rattle.std.proofs.Common.{◌≡◌, ℕ, zero, suc, ◌+◌, ◌≤◌, List, [], ◌∷◌, ◌++◌, drop, length, take, ap, subst, arith}
use Rattle.std.specs.Prelude.{sum_by}
use Rattle.std.proofs.lemmas.List.{drop_all}
use Rattle.std.proofs.lemmas.List.Sums.{sum_by-append, sum_by_push, sum_by-take-drop}

none-behind : {A : Type 0} (f : A → ℕ) (k : ℕ) → sum_by f (drop k []) ≡ 0
none-behind f k = ap (sum_by f) (drop_all k [] (omega arith))

-- no more than all
pub some-behind : {A : Type 0} (f : A → ℕ) (k : ℕ) (xs : List A) → sum_by f (drop k xs) ≤ sum_by f xs
some-behind f k xs = omega (arith, sum_by-take-drop f xs k)

-- one more at the end
pub push-behind : {A : Type 0} (f : A → ℕ) (k : ℕ) (xs : List A) (w : A)
    → sum_by f (drop k (xs ++ w ∷ [])) ≤ sum_by f (drop k xs) + f w
push-behind f zero xs w = omega (arith, sum_by_push f xs w)
push-behind f (suc k) [] w = omega (arith, none-behind f k)
push-behind f (suc k) (x ∷ xs) w = push-behind f k xs w

-- more at the end, where no fewer are first
pub more-behind : {A : Type 0} (f : A → ℕ) (k : ℕ) (xs ys : List A) → k ≤ length xs
    → sum_by f (drop k (xs ++ ys)) ≡ sum_by f (drop k xs) + sum_by f ys
more-behind f zero xs ys le = sum_by-append f xs ys
more-behind f (suc k) [] ys le = absurd (omega (arith, le))
more-behind f (suc k) (x ∷ xs) ys le = more-behind f k xs ys (omega (arith, le))

-- so many more of the first ones
pub next-behind : {A : Type 0} (f : A → ℕ) (k n : ℕ) (xs : List A)
    → sum_by f (take n (drop k xs)) + sum_by f (drop (k + n) xs) ≡ sum_by f (drop k xs)
next-behind f zero n xs =
    let same : n ≡ 0 + n = omega arith in
    subst (λ (m : ℕ). sum_by f (take n xs) + sum_by f (drop m xs) ≡ sum_by f xs) same
    (sum_by-take-drop f xs n)
next-behind f (suc k) n [] =
    let none = none-behind f (suc k + n) in
    let whole = sum_by-take-drop f [] n in
    omega (arith, none, whole)
next-behind f (suc k) n (x ∷ xs) =
    let same : suc (k + n) ≡ suc k + n = omega arith in
    subst (λ (m : ℕ). sum_by f (take n (drop k xs)) + sum_by f (drop m (x ∷ xs)) ≡ sum_by f (drop k xs))
    same (next-behind f k n xs)

-- more of the first ones
pub fewer-behind : {A : Type 0} (f : A → ℕ) (k n : ℕ) (xs : List A)
    → sum_by f (drop (k + n) xs) ≤ sum_by f (drop k xs)
fewer-behind f zero n xs =
    let same : n ≡ 0 + n = omega arith in
    subst (λ (m : ℕ). sum_by f (drop m xs) ≤ sum_by f xs) same (some-behind f n xs)
fewer-behind f (suc k) n [] = omega (arith, none-behind f (suc k + n))
fewer-behind f (suc k) n (x ∷ xs) =
    let same : suc (k + n) ≡ suc k + n = omega arith in
    subst (λ (m : ℕ). sum_by f (drop m (x ∷ xs)) ≤ sum_by f (drop k xs)) same (fewer-behind f k n xs)
