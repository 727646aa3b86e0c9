-- Lists: their elements, and what is mapped, filtered and searched.
use Rattle.std.proofs.Common.{◌≡◌, zero, suc, Bool, true, false, cond, ◌||◌, ◌⊎◌, inl, inr, List, [], ◌∷◌, ◌++◌, map, length, Option, Some, None, is_some, refl, sym, ap, subst, ◌∙◌, arith, ℕ}
use Rattle.std.specs.List.{AllByRecursion, Contains, filter, find, list_any, slice_get}
use Rattle.std.proofs.lemmas.Bool.{false≢true}
use Rattle.std.proofs.lemmas.List.Elements.{All-contains, All-contains_itself, All-filter, All-from_recursion, filter_passes, recursion_from_All, filter-append}

pub contains-none : {X : Type 0} (x : X) → Contains [] x → ⊥
contains-none x h = absurd (omega (arith, h.1))

pub contains-later : {X : Type 0} (y : X) (xs : List X) (x : X) → Contains xs x → Contains (y ∷ xs) x
contains-later y xs x h = (suc h.0, let lt = h.1 in omega arith, h.2)

pub first-or-later : {X : Type 0} (y : X) (xs : List X) (x : X) → Contains (y ∷ xs) x → (y ≡ x) ⊎ Contains xs x
first-or-later y xs x (zero, lt, e) = inl e
first-or-later y xs x (suc k, lt, e) = inr (k, omega arith, e)

pub contains-filter : {X : Type 0} (p : X → Bool) (xs : List X) (x : X) → Contains xs x → p x ≡ true → Contains (filter p xs) x
contains-filter p [] x h e = absurd (contains-none x h)
contains-filter p (y ∷ xs) x h e =
    elim (first-or-later y xs x h) [
      | inl w ↦ let is : p y ≡ true = ap p w ∙ e in rw is (zero, omega arith, w)
      | inr w ↦ go (p y) (contains-filter p xs x w e)
    ]
  where
    go : (b : Bool) → Contains (filter p xs) x → Contains (cond b (y ∷ filter p xs) (filter p xs)) x
    go true r = contains-later y (filter p xs) x r
    go false r = r

pub filtered-from : {X : Type 0} (p : X → Bool) (xs : List X) (x : X) → Contains (filter p xs) x → Contains xs x × (p x ≡ true)
filtered-from p xs x h = (
  All-contains (Contains xs) (filter p xs) x (All-filter p (Contains xs) xs (All-contains_itself xs)) h,
  All-contains (λ y. p y ≡ true) (filter p xs) x (filter_passes p xs) h,
)

-- what a search finds is an element, and passes
pub find-some : {X : Type 0} (p : X → Bool) (xs : List X) (x : X) → find p xs ≡ Some x → Contains xs x × (p x ≡ true)
find-some p [] x e = absurd cc
find-some p (y ∷ ys) x e = go (find-some p ys x) (p y) refl e
  where
    go : (find p ys ≡ Some x → Contains ys x × (p x ≡ true)) → (b : Bool) → p y ≡ b → cond b (Some y) (find p ys) ≡ Some x
        → Contains (y ∷ ys) x × (p x ≡ true)
    go rest true is f = let same : y ≡ x = cc in ((zero, omega arith, same), subst (λ z. p z ≡ true) same is)
    go rest false is f = let later = rest f in (contains-later y ys x later.0, later.1)

pub is-some : {X : Type 0} (o : Option X) → is_some o ≡ true → (x : X) × (o ≡ Some x)
is-some None e = absurd (false≢true e)
is-some (Some x) e = (x, refl)

-- what is found passes, and where one passes, one is found
pub any-find : {X : Type 0} (q : X → Bool) (xs : List X) → list_any q xs ≡ is_some (find q xs)
any-find q [] = refl
any-find {X = X} q (x ∷ xs) = by (q x) (any-find q xs)
  where
    by : (b : Bool) → list_any q xs ≡ is_some (find q xs) → (b || list_any q xs) ≡ is_some (cond b (Some x) (find q xs))
    by true h = refl
    by false h = h

pub find-any : {X : Type 0} (p : X → Bool) (xs : List X) → list_any p xs ≡ true → (x : X) × (find p xs ≡ Some x)
find-any p xs e = is-some (find p xs) (sym (any-find p xs) ∙ e)

-- what is mapped
pub contains-map : {X Y : Type 0} (f : X → Y) (xs : List X) (x : X) → Contains xs x → Contains (map f xs) (f x)
contains-map f [] x h = absurd (contains-none x h)
contains-map f (y ∷ ys) x h = elim (first-or-later y ys x h) [
  | inl e ↦ (zero, omega arith, ap f e)
  | inr w ↦ contains-later (f y) (map f ys) (f x) (contains-map f ys x w)
]

pub contains-mapped : {X Y : Type 0} (f : X → Y) (xs : List X) (y : Y) → Contains (map f xs) y → (x : X) × Contains xs x × (f x ≡ y)
contains-mapped f [] y h = absurd (contains-none y h)
contains-mapped f (x ∷ xs) y h = elim (first-or-later (f x) (map f xs) y h) [
  | inl e ↦ (x, (zero, omega arith, refl), e)
  | inr k ↦ let rest = contains-mapped f xs y k in (rest.0, contains-later x xs rest.0 rest.1, rest.2)
]

-- what holds of each
pub all-of : {X : Type 0} (P : X → Type 0) (xs : List X) (x : X) → AllByRecursion P xs → Contains xs x → P x
all-of P xs x a h = All-contains P xs x (All-from_recursion P xs a) h

pub all-more : {X : Type 0} (P Q : X → Type 0) → ((x : X) → P x → Q x) → (xs : List X) → AllByRecursion P xs → AllByRecursion Q xs
all-more P Q more [] a = a
all-more P Q more (x ∷ xs) a = (more x a.0, all-more P Q more xs a.1)

pub all-push : {X : Type 0} (P : X → Type 0) (xs : List X) (x : X) → AllByRecursion P xs → P x → AllByRecursion P (xs ++ x ∷ [])
all-push P [] x a h = (h, tt)
all-push P (y ∷ xs) x a h = (a.0, all-push P xs x a.1 h)

pub all-filter : {X : Type 0} (P : X → Type 0) (q : X → Bool) (xs : List X) → AllByRecursion P xs → AllByRecursion P (filter q xs)
all-filter P q xs a = recursion_from_All P (filter q xs) (All-filter q P xs (All-from_recursion P xs a))

pub all-passes : {X : Type 0} (q : X → Bool) (xs : List X) → AllByRecursion (λ (x : X). q x ≡ true) (filter q xs)
all-passes q xs = recursion_from_All (λ x. q x ≡ true) (filter q xs) (filter_passes q xs)

-- a filter at the end of a list, and two that are alike

pub filter-push : {X : Type 0} (f : X → Bool) (xs : List X) (y : X) → f y ≡ true → filter f (xs ++ y ∷ []) ≡ filter f xs ++ y ∷ []
filter-push f xs y e = filter-append f xs (y ∷ []) ∙ rw e refl

pub filter-by : {X : Type 0} (p q : X → Bool) (xs : List X) → AllByRecursion (λ (x : X). p x ≡ q x) xs → filter p xs ≡ filter q xs
filter-by p q [] a = refl
filter-by p q (x ∷ xs) a = rw (a.0, filter-by p q xs a.1) refl

-- what stands in a place does so in a longer list
pub got-more : {X : Type 0} (xs ys : List X) (i : ℕ) (x : X) → slice_get xs i ≡ Some x → slice_get (xs ++ ys) i ≡ Some x
got-more [] ys i x e = absurd cc
got-more (z ∷ xs) ys zero x e = e
got-more (z ∷ xs) ys (suc i) x e = got-more xs ys i x e

pub got-last : {X : Type 0} (xs : List X) (y : X) (ys : List X) → slice_get (xs ++ y ∷ ys) (length xs) ≡ Some y
got-last [] y ys = refl
got-last (x ∷ xs) y ys = got-last xs y ys

pub any-of : {X : Type 0} (q : X → Bool) (xs : List X) (x : X) → Contains xs x → q x ≡ true
    → list_any q xs ≡ true
any-of q [] x h e = absurd (contains-none x h)
any-of q (y ∷ ys) x h e = elim (first-or-later y ys x h) [
  | inl w ↦ rw (w, e) refl
  | inr w ↦ by (q y) (any-of q ys x w e)
]
  where
    by : (b : Bool) → list_any q ys ≡ true → (b || list_any q ys) ≡ true
    by true ih = refl
    by false ih = ih
