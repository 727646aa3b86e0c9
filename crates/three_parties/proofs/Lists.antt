-- Places in lists that were put together.
use Rattle.std.proofs.Common.{◌≡◌, ℕ, zero, suc, ◌+◌, ◌<◌, ◌≤◌, ◌⊎◌, inl, inr, List, [], ◌∷◌, ◌++◌, length, map, take, Some, refl, sym, ap, subst, arith}
use Rattle.std.specs.Prelude.{slice_get}
use Rattle.std.specs.List.{AllByRecursion, Contains}
use Rattle.history_laws.proofs.CallerLemmas.{none-some, some-is}

pub got-both : {X : Type 0} (xs ys : List X) (n : ℕ) (y : X) → slice_get (xs ++ ys) n ≡ Some y
    → (slice_get xs n ≡ Some y) ⊎ ((k : ℕ) × (n ≡ length xs + k) × (slice_get ys k ≡ Some y))
got-both [] ys n y e = inr (n, omega arith, e)
got-both (x ∷ xs) ys zero y e = inl e
got-both (x ∷ xs) ys (suc n) y e =
    elim (got-both xs ys n y e) [
      | inl w ↦ inl w
      | inr w ↦ let same = w.1 in inr (w.0, omega (arith, same), w.2)
    ]

pub got-below : {X : Type 0} (xs : List X) (n : ℕ) (y : X) → slice_get xs n ≡ Some y → n < length xs
got-below [] n y e = absurd (none-some y e)
got-below (x ∷ xs) zero y e = omega arith
got-below (x ∷ xs) (suc n) y e = let lt = got-below xs n y e in omega (arith, lt)

pub got-front : {X : Type 0} (xs ys : List X) (n : ℕ) (y : X) → slice_get xs n ≡ Some y → slice_get (xs ++ ys) n ≡ Some y
got-front [] ys n y e = absurd (none-some y e)
got-front (x ∷ xs) ys zero y e = e
got-front (x ∷ xs) ys (suc n) y e = got-front xs ys n y e

pub got-next : {X : Type 0} (xs : List X) (x : X) (ys : List X) → slice_get (xs ++ x ∷ ys) (length xs) ≡ Some x
got-next [] x ys = refl
got-next (y ∷ xs) x ys = got-next xs x ys

pub got-map : {X Y : Type 0} (f : X → Y) (xs : List X) (n : ℕ) (y : Y) → slice_get (map f xs) n ≡ Some y
    → (x : X) × Contains xs x × (f x ≡ y)
got-map f [] n y e = absurd (none-some y e)
got-map f (x ∷ xs) zero y e = (x, (0, omega arith, refl), some-is (f x) y e)
got-map f (x ∷ xs) (suc n) y e =
    let rest = got-map f xs n y e in (rest.0, (suc rest.1.0, let lt = rest.1.1 in omega (arith, lt), rest.1.2), rest.2)

pub all-from : {X : Type 0} (P : X → Type 0) (xs : List X) → ((n : ℕ) (x : X) → slice_get xs n ≡ Some x → P x) → AllByRecursion P xs
all-from P [] h = tt
all-from P (x ∷ xs) h = (h 0 x refl, all-from P xs (λ n y e. h (suc n) y e))

pub take-front : {X : Type 0} (xs ys : List X) → take (length xs) (xs ++ ys) ≡ xs
take-front [] [] = refl
take-front [] (y ∷ ys) = refl
take-front (x ∷ xs) ys = ap (λ zs. x ∷ zs) (take-front xs ys)

pub taken-all : {X : Type 0} (xs : List X) (n : ℕ) → length xs ≤ n → take n xs ≡ xs
taken-all [] zero le = refl
taken-all [] (suc n) le = refl
taken-all (x ∷ xs) zero le = absurd (omega (arith, le))
taken-all (x ∷ xs) (suc n) le = ap (λ zs. x ∷ zs) (taken-all xs n (omega (arith, le)))

pub got-back : {X : Type 0} (xs ys : List X) (n k : ℕ) (y : X) → n ≡ length xs + k → slice_get ys k ≡ Some y → slice_get (xs ++ ys) n ≡ Some y
got-back {X} [] ys n k y is e =
    let same : k ≡ n = omega (arith, is) in subst (λ (n : ℕ). slice_get ys n ≡ Some y) same e
got-back (x ∷ xs) ys zero k y is e = absurd (omega (arith, is))
got-back (x ∷ xs) ys (suc n) k y is e = got-back xs ys n k y (omega (arith, is)) e

pub got-in : {X : Type 0} (xs : List X) (n : ℕ) → n < length xs → (y : X) × (slice_get xs n ≡ Some y)
got-in [] n lt = absurd (omega (arith, lt))
got-in (x ∷ xs) zero lt = (x, refl)
got-in (x ∷ xs) (suc n) lt = got-in xs n (omega (arith, lt))

-- the same number for each of these
abbrev pub alike : {X : Type 0} → ℕ → List X → List ℕ
alike n xs = map (λ x. n) xs

pub got-alike : {X : Type 0} (n : ℕ) (xs : List X) (k a : ℕ) → slice_get (alike n xs) k ≡ Some a → a ≡ n
got-alike n [] k a e = absurd (none-some a e)
got-alike n (x ∷ xs) zero a e = sym (some-is n a e)
got-alike n (x ∷ xs) (suc k) a e = got-alike n xs k a e

pub alike-there : {X : Type 0} (n : ℕ) (xs : List X) (k : ℕ) (x : X) → slice_get xs k ≡ Some x → slice_get (alike n xs) k ≡ Some n
alike-there n [] k x e = absurd (none-some x e)
alike-there n (y ∷ xs) zero x e = refl
alike-there n (y ∷ xs) (suc k) x e = alike-there n xs k x e

pub alike-len : {X : Type 0} (n : ℕ) (xs : List X) → length (alike n xs) ≡ length xs
alike-len n [] = refl
alike-len n (x ∷ xs) = ap suc (alike-len n xs)

pub got-from : {X Y : Type 0} (f : X → Y) (xs : List X) (n : ℕ) (y : Y) → slice_get (map f xs) n ≡ Some y
    → (x : X) × (slice_get xs n ≡ Some x) × (f x ≡ y)
got-from f [] n y e = absurd (none-some y e)
got-from f (x ∷ xs) zero y e = (x, refl, some-is (f x) y e)
got-from f (x ∷ xs) (suc n) y e = got-from f xs n y e

pub all-got : {X : Type 0} (P : X → Type 0) (xs : List X) → AllByRecursion P xs → (n : ℕ) (x : X) → slice_get xs n ≡ Some x → P x
all-got P [] h n x e = absurd (none-some x e)
all-got P (y ∷ ys) h zero x e = subst P (some-is y x e) h.0
all-got P (y ∷ ys) h (suc n) x e = all-got P ys h.1 n x e

pub all-map : {X : Type 0} (P Q : X → Type 0) → ((x : X) → P x → Q x) → (xs : List X) → AllByRecursion P xs → AllByRecursion Q xs
all-map P Q f [] h = tt
all-map P Q f (x ∷ xs) h = (f x h.0, all-map P Q f xs h.1)

pub all-joined : {X : Type 0} (P : X → Type 0) (xs ys : List X) → AllByRecursion P xs → AllByRecursion P ys → AllByRecursion P (xs ++ ys)
all-joined P [] ys a b = b
all-joined P (x ∷ xs) ys a b = (a.0, all-joined P xs ys a.1 b)

pub all-at : {X : Type 0} (P : X → Type 0) (xs : List X) → AllByRecursion P xs → (n : ℕ) (x : X) → slice_get xs n ≡ Some x → P x
all-at P [] h n x e = absurd (none-some x e)
all-at P (y ∷ ys) h zero x e = subst P (some-is y x e) h.0
all-at P (y ∷ ys) h (suc n) x e = all-at P ys h.1 n x e
