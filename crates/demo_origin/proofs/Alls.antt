-- What holds of each element of a list.
use Rattle.std.proofs.Common.{◌≡◌, ℕ, zero, suc, List, [], ◌∷◌, ◌++◌, map, filter, set, slice_get, get_or, Contains, Some, Bool, true, false, cond, refl, subst, arith}
use Rattle.std.specs.List.{AllByRecursion}

pub all_push : {X : Type 0} (P : X → Type 0) (xs : List X) (x : X)
    → AllByRecursion P xs → P x → AllByRecursion P (xs ++ x ∷ [])
all_push P [] x h k = (k, tt)
all_push P (y ∷ ys) x h k = (h.0, all_push P ys x h.1 k)

pub all_filter : {X : Type 0} (P : X → Type 0) (p : X → Bool) (xs : List X)
    → AllByRecursion P xs → AllByRecursion P (filter p xs)
all_filter P p [] h = tt
all_filter {X} P p (x ∷ xs) h =
    let more : AllByRecursion P (filter p xs) = all_filter P p xs h.1 in
    let Q : Bool → Type 0 = λ b. AllByRecursion P (cond b (x ∷ filter p xs) (filter p xs)) in
    elim (p x) as Q [ true ↦ (h.0, more) | false ↦ more ]

pub all_map : {X : Type 0} (P : X → Type 0) (f : X → X) (xs : List X)
    → ((x : X) → P x → P (f x)) → AllByRecursion P xs → AllByRecursion P (map f xs)
all_map P f [] k h = tt
all_map P f (x ∷ xs) k h = (k x h.0, all_map P f xs k h.1)

pub all_set : {X : Type 0} (P : X → Type 0) (xs : List X) (i : ℕ) (y : X)
    → AllByRecursion P xs → P y → AllByRecursion P (set xs i y)
all_set P [] i y h k = tt
all_set P (x ∷ xs) zero y h k = (k, h.1)
all_set P (x ∷ xs) (suc i) y h k = (h.0, all_set P xs i y h.1 k)

pub all_at : {X : Type 0} (P : X → Type 0) (xs : List X) (i : ℕ) (x : X)
    → AllByRecursion P xs → slice_get xs i ≡ Some x → P x
all_at P [] i x h e = absurd cc
all_at P (y ∷ ys) zero x h e = let same : y ≡ x = cc in subst P same h.0
all_at P (y ∷ ys) (suc i) x h e = all_at P ys i x h.1 e

pub all_found : {X : Type 0} (P : X → Type 0) (xs : List X) (x : X)
    → AllByRecursion P xs → Contains xs x → P x
all_found P [] x h (k, lt, is) = absurd (omega (arith, lt))
all_found P (y ∷ ys) x h (zero, lt, is) = subst P is h.0
all_found P (y ∷ ys) x h (suc k, lt, is) = all_found P ys x h.1 (k, omega (arith, lt), is)

pub all_same : {X : Type 0} (P Q : X → Type 0) (xs : List X)
    → ((x : X) → P x → Q x) → AllByRecursion P xs → AllByRecursion Q xs
all_same P Q [] k h = tt
all_same P Q (x ∷ xs) k h = (k x h.0, all_same P Q xs k h.1)

pub all_among : {X : Type 0} (P : X → Type 0) (xs : List X)
    → ((x : X) → Contains xs x → P x) → AllByRecursion P xs
all_among P [] k = tt
all_among {X} P (x ∷ xs) k =
    (k x (zero, omega arith, refl), all_among P xs (λ y c. k y (suc c.0, omega (arith, c.1), c.2)))

pub get_or_of : {X : Type 0} (xs : List X) (i : ℕ) (x d : X)
    → slice_get xs i ≡ Some x → get_or xs i d ≡ x
get_or_of [] i x d e = absurd cc
get_or_of (y ∷ ys) zero x d e = cc
get_or_of (y ∷ ys) (suc i) x d e = get_or_of ys i x d e
