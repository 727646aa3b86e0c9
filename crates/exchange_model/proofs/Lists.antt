-- What holds of each element of a list.
use Rattle.std.proofs.Common.{◌≡◌, zero, suc, Bool, true, false, cond, List, [], ◌∷◌, map, refl, ap, arith}
use Rattle.std.specs.Prelude.{◌&&◌, filter}
use Rattle.std.specs.List.{AllByRecursion, Contains, list_all}

module _ {X Y : Type 0} (f : X → Y) (P : Y → Type 0) where
  pub all-map : (xs : List X) → AllByRecursion (λ (x : X). P (f x)) xs → AllByRecursion P (map f xs)
  all-map [] a = a
  all-map (x ∷ xs) a = (a.0, all-map xs a.1)

  pub all-mapped : (xs : List X) → AllByRecursion P (map f xs) → AllByRecursion (λ (x : X). P (f x)) xs
  all-mapped [] a = a
  all-mapped (x ∷ xs) a = (a.0, all-mapped xs a.1)

pub all-both : {X : Type 0} (P Q : X → Type 0) (xs : List X) → AllByRecursion P xs → AllByRecursion Q xs → AllByRecursion (λ (x : X). P x × Q x) xs
all-both P Q [] a b = tt
all-both P Q (x ∷ xs) a b = ((a.0, b.0), all-both P Q xs a.1 b.1)

module _ {X : Type 0} (q : X → Bool) where
  pub all-pass : (xs : List X) → AllByRecursion (λ (x : X). q x ≡ true) xs → list_all q xs ≡ true
  all-pass [] a = refl
  all-pass (x ∷ xs) a = rw (a.0) (all-pass xs a.1)

  pub every-passes : ((x : X) → q x ≡ true) → (xs : List X) → list_all q xs ≡ true
  every-passes h [] = refl
  every-passes h (x ∷ xs) = rw (h x) (every-passes h xs)

pub each-of : {X : Type 0} (P : X → Type 0) (xs : List X) → ((x : X) → Contains xs x → P x) → AllByRecursion P xs
each-of P [] f = tt
each-of P (x ∷ xs) f = (f x (zero, omega arith, refl), each-of P xs (λ y h. f y (suc h.0, let lt = h.1 in omega arith, h.2)))

pub filter-map : {X Y : Type 0} (q : Y → Bool) (f : X → Y) (xs : List X) → filter q (map f xs) ≡ map f (filter (λ (x : X). q (f x)) xs)
filter-map q f [] = refl
filter-map {X = X} q f (x ∷ xs) = by (q (f x)) (filter-map q f xs)
  where
    by : (b : Bool) → filter q (map f xs) ≡ map f (filter (λ (y : X). q (f y)) xs)
        → cond b (f x ∷ filter q (map f xs)) (filter q (map f xs)) ≡ map f (cond b (x ∷ filter (λ (y : X). q (f y)) xs) (filter (λ (y : X). q (f y)) xs))
    by true h = ap (λ (v : List _). f x ∷ v) h
    by false h = h

pub filter-both : {X : Type 0} (f g : X → Bool) (xs : List X) → filter (λ (x : X). f x && g x) xs ≡ filter f (filter g xs)
filter-both f g [] = refl
filter-both {X = X} f g (x ∷ xs) = by (f x) refl (g x) (filter-both f g xs)
  where
    by : (a : Bool) → f x ≡ a → (b : Bool) → filter (λ (y : X). f y && g y) xs ≡ filter f (filter g xs)
        → cond (a && b) (x ∷ filter (λ (y : X). f y && g y) xs) (filter (λ (y : X). f y && g y) xs) ≡ filter f (cond b (x ∷ filter g xs) (filter g xs))
    by true is true h = rw (is, h) refl
    by true is false h = h
    by false is true h = rw (is) h
    by false is false h = h
