-- One among those whose numbers rise: where a search comes to, and what is made of the list there.
use Rattle.std.proofs.Common.{◌≡◌, ◌≢◌, ℕ, zero, suc, ◌<◌, ◌≤◌, Bool, true, false, not, cond, List, [], ◌∷◌, ◌++◌, length, map, take, drop, get_or, Some, None, inl, inr, refl, sym, ap, subst, ◌∙◌, ◌⊎◌, ◌||◌, ltb, ltb-true, ltb-false, arith}
use Rattle.std.specs.Prelude.{filter, remove}
use Rattle.std.specs.List.{AllByRecursion, find, list_any}
use Rattle.std.specs.List.Sorted.{IsNonDecreasingBy, IsPartitionPoint}
use Rattle.std.proofs.Math.ListN.{set}
use Rattle.std.proofs.lemmas.Bool.{cases_Bool}
use Rattle.history_laws.proofs.CallerLemmas.{all-filter, all-more}
use Rattle.exchange_table.specs.Places.{RiseBy, IsNowhere, IsOnlyAt}

pub three : (a b : ℕ) → (a < b) ⊎ ((a ≡ b) ⊎ (b < a))
three zero zero = inr (inl refl)
three zero (suc b) = inl (omega arith)
three (suc a) zero = inr (inr (omega arith))
three (suc a) (suc b) =
    elim (three a b) [
      | inl lt ↦ inl (omega (arith, lt))
      | inr rest ↦ elim rest [ inl e ↦ inr (inl (ap suc e)) | inr lt ↦ inr (inr (omega (arith, lt))) ]
    ]

-- what holds of each holds of the one in a place, and the reverse
pub all-at : {X : Type 0} (P : X → Type 0) (xs : List X) (i : ℕ) (d : X) → AllByRecursion P xs → i < length xs → P (get_or xs i d)
all-at P [] i d a lt = absurd (omega (arith, lt))
all-at P (x ∷ xs) zero d a lt = a.0
all-at P (x ∷ xs) (suc i) d a lt = all-at P xs i d a.1 (omega (arith, lt))

pub at-all : {X : Type 0} (P : X → Type 0) (xs : List X) → ((k : ℕ) (d : X) → k < length xs → P (get_or xs k d)) → AllByRecursion P xs
at-all P [] f = tt
at-all P (x ∷ xs) f = (f 0 x (omega arith), at-all P xs (λ k d lt. f (suc k) d (omega (arith, lt))))

pub rises : {X : Type 0} (n : X → ℕ) (xs : List X) (i j : ℕ) (d : X) → RiseBy n xs → i < j → j < length xs → n (get_or xs i d) < n (get_or xs j d)
rises n [] i j d order less lt = absurd (omega (arith, lt))
rises n (x ∷ xs) i zero d order less lt = absurd (omega (arith, less))
rises n (x ∷ xs) zero (suc j) d order less lt = all-at (λ y. n x < n y) xs j d order.0 (omega (arith, lt))
rises n (x ∷ xs) (suc i) (suc j) d order less lt = rises n xs i j d order.1 (omega (arith, less)) (omega (arith, lt))

pub non-decreasing : {X : Type 0} (n : X → ℕ) (xs : List X) → RiseBy n xs → IsNonDecreasingBy n xs
non-decreasing n xs order i j d le lt =
    elim (three i j) [
      | inl less ↦ let lower = rises n xs i j d order less lt in omega (arith, lower)
      | inr rest ↦ elim rest [
        | inl e ↦ let same : n (get_or xs i d) ≡ n (get_or xs j d) = ap (λ (k : ℕ). n (get_or xs k d)) e in omega (arith, same)
        | inr more ↦ absurd (omega (arith, more, le))
      ]
    ]

-- what a search says of a place
abbrev pub Splits : {X : Type 0} → (X → ℕ) → ℕ → List X → ℕ → Type 0
Splits n t xs i = IsPartitionPoint (λ x. ltb (n x) t ≡ true) (λ x. ltb (n x) t ≡ false) xs i

-- only what bears the number passes the test
abbrev pub Tells : {X : Type 0} → (X → ℕ) → ℕ → (X → Bool) → Type 0
Tells {X} n t q = (x : X) → q x ≡ true → n x ≡ t

other : {X : Type 0} (n : X → ℕ) (t : ℕ) (q : X → Bool) (x : X) → Tells n t q → n x ≢ t → q x ≡ false
other n t q x tells not_so = elim (cases_Bool (q x)) [ inl e ↦ absurd (not_so (tells x e)) | inr e ↦ e ]

pub none-past : {X : Type 0} (n : X → ℕ) (t : ℕ) (q : X → Bool) (xs : List X) (i : ℕ) → Tells n t q → Splits n t xs i → length xs ≤ i → IsNowhere q xs
none-past n t q xs i tells split le =
    at-all (λ x. q x ≡ false) xs (λ k d lt. other n t q (get_or xs k d) tells
    (λ e. let lower = ltb-true (n (get_or xs k d)) t (split.0 k d (omega arith) (omega (arith, lt, le))) in
    absurd (omega (arith, lower, e))))

pub none-there : {X : Type 0} (n : X → ℕ) (t : ℕ) (q : X → Bool) (xs : List X) (i : ℕ) (x : X) → Tells n t q → RiseBy n xs → Splits n t xs i
    → i < length xs → x ≡ get_or xs i x → q x ≡ false → IsNowhere q xs
none-there n t q xs i x tells order split at_place at_it not_so =
    at-all (λ y. q y ≡ false) xs (λ k d lt.
    elim (three k i) [
      | inl less ↦ other n t q (get_or xs k d) tells (λ e. let lower = ltb-true (n (get_or xs k d)) t (split.0 k d (omega arith) less) in absurd (omega (arith, lower, e)))
      | inr rest ↦ elim rest [
        | inl same ↦ ap (λ (j : ℕ). q (get_or xs j d)) same ∙ ap q (sym (at-default xs i x d at_place at_it)) ∙ not_so
        | inr more ↦ other n t q (get_or xs k d) tells (λ e.
            let lower = rises n xs i k d order more lt in
            let not_less = ltb-false (n (get_or xs i d)) t (split.1 i d (omega arith) at_place) in
            absurd (omega (arith, lower, not_less, e)))
      ]
    ])
  where
    at-default : {X : Type 0} (ys : List X) (j : ℕ) (y d : X) → j < length ys → y ≡ get_or ys j y → y ≡ get_or ys j d
    at-default [] j y d lt e = absurd (omega (arith, lt))
    at-default (z ∷ ys) zero y d lt e = e
    at-default (z ∷ ys) (suc j) y d lt e = at-default ys j y d (omega (arith, lt)) e

none-after : {X : Type 0} (n : X → ℕ) (t : ℕ) (q : X → Bool) (xs : List X) → Tells n t q → AllByRecursion (λ y. t < n y) xs → IsNowhere q xs
none-after n t q xs tells above =
    all-more (λ y. t < n y) (λ y. q y ≡ false) (λ y lt. other n t q y tells (λ e. absurd (omega (arith, lt, e)))) xs above

-- one that passes the test is the only one
pub only-at : {X : Type 0} (n : X → ℕ) (t : ℕ) (q : X → Bool) (xs : List X) (i : ℕ) (x : X) → Tells n t q → RiseBy n xs
    → i < length xs → x ≡ get_or xs i x → q x ≡ true → IsOnlyAt q xs i
only-at n t q [] i x tells order lt at_it so = absurd (omega (arith, lt))
only-at n t q (z ∷ zs) zero x tells order lt at_it so = (
  ap q (sym at_it) ∙ so,
  none-after n t q zs tells (subst (λ (m : ℕ). AllByRecursion (λ y. m < n y) zs) (tells z (ap q (sym at_it) ∙ so)) order.0),
)
only-at n t q (z ∷ zs) (suc i) x tells order lt at_it so =
    let inside : i < length zs = omega (arith, lt) in
    let below : n z < n (get_or zs i x) = all-at (λ y. n z < n y) zs i x order.0 inside in
    let here : n (get_or zs i x) ≡ t = ap n (sym at_it) ∙ tells x so in
    (other n t q z tells (λ e. absurd (omega (arith, below, here, e))), only-at n t q zs i x tells order.1 inside at_it so)

pub only-is : {X : Type 0} (q : X → Bool) (xs : List X) (i : ℕ) (d : X) → IsOnlyAt q xs i → q (get_or xs i d) ≡ true
only-is q [] i d h = absurd h
only-is q (x ∷ xs) zero d h = h.0
only-is q (x ∷ xs) (suc i) d h = only-is q xs i d h.1

-- what is found

pub find-none : {X : Type 0} (q : X → Bool) (xs : List X) → IsNowhere q xs → find q xs ≡ None
find-none q [] h = refl
find-none q (x ∷ xs) h = rw h.0 (find-none q xs h.1)

pub find-only : {X : Type 0} (q : X → Bool) (xs : List X) (i : ℕ) (d : X) → IsOnlyAt q xs i → find q xs ≡ Some (get_or xs i d)
find-only q [] i d h = absurd h
find-only q (x ∷ xs) zero d h = rw h.0 refl
find-only q (x ∷ xs) (suc i) d h = rw h.0 (find-only q xs i d h.1)

pub any-none : {X : Type 0} (q r : X → Bool) (xs : List X) → ((x : X) → q x ≡ false → r x ≡ false) → IsNowhere q xs → list_any r xs ≡ false
any-none q r [] not_so h = refl
any-none q r (x ∷ xs) not_so h = rw (not_so x h.0) (any-none q r xs not_so h.1)

or-false : (b c : Bool) → c ≡ false → (b || c) ≡ b
or-false true c e = refl
or-false false c e = e

pub any-only : {X : Type 0} (q r : X → Bool) (xs : List X) (i : ℕ) (d : X) → ((x : X) → q x ≡ false → r x ≡ false) → IsOnlyAt q xs i → list_any r xs ≡ r (get_or xs i d)
any-only q r [] i d not_so h = absurd h
any-only q r (x ∷ xs) zero d not_so h = or-false (r x) (list_any r xs) (any-none q r xs not_so h.1)
any-only q r (x ∷ xs) (suc i) d not_so h = rw (not_so x h.0) (any-only q r xs i d not_so h.1)

-- what is made of the list

pub map-none : {X : Type 0} (q : X → Bool) (f : X → X) (xs : List X) → ((x : X) → q x ≡ false → f x ≡ x) → IsNowhere q xs → map f xs ≡ xs
map-none q f [] same h = refl
map-none q f (x ∷ xs) same h = rw (same x h.0, map-none q f xs same h.1) refl

pub map-only : {X : Type 0} (q : X → Bool) (f : X → X) (xs : List X) (i : ℕ) (d : X) → ((x : X) → q x ≡ false → f x ≡ x) → IsOnlyAt q xs i → map f xs ≡ set xs i (f (get_or xs i d))
map-only q f [] i d same h = absurd h
map-only q f (x ∷ xs) zero d same h = ap (λ ys. f x ∷ ys) (map-none q f xs same h.1)
map-only q f (x ∷ xs) (suc i) d same h = rw (same x h.0) (ap (λ ys. x ∷ ys) (map-only q f xs i d same h.1))

pub filter-none : {X : Type 0} (q : X → Bool) (xs : List X) → IsNowhere q xs → filter (λ x. not (q x)) xs ≡ xs
filter-none q [] h = refl
filter-none q (x ∷ xs) h = rw h.0 (ap (λ ys. x ∷ ys) (filter-none q xs h.1))

pub filter-only : {X : Type 0} (q : X → Bool) (xs : List X) (i : ℕ) → IsOnlyAt q xs i → filter (λ x. not (q x)) xs ≡ remove xs i
filter-only q [] i h = absurd h
filter-only q (x ∷ xs) zero h = rw h.0 (filter-none q xs h.1)
filter-only q (x ∷ xs) (suc i) h = rw h.0 (ap (λ ys. x ∷ ys) (filter-only q xs i h.1))

-- the order stays

pub rise-filter : {X : Type 0} (n : X → ℕ) (p : X → Bool) (xs : List X) → RiseBy n xs → RiseBy n (filter p xs)
rise-filter n p [] r = r
rise-filter {X = X} n p (x ∷ xs) r = by (p x) (rise-filter n p xs r.1)
  where
    by : (b : Bool) → RiseBy n (filter p xs) → RiseBy n (cond b (x ∷ filter p xs) (filter p xs))
    by true h = (all-filter (λ y. n x < n y) p xs r.0, h)
    by false h = h

pub rise-map : {X : Type 0} (n : X → ℕ) (f : X → X) (xs : List X) → ((x : X) → n (f x) ≡ n x) → RiseBy n xs → RiseBy n (map f xs)
rise-map n f [] same r = r
rise-map {X = X} n f (x ∷ xs) same r = (above xs r.0, rise-map n f xs same r.1)
  where
    above : (ys : List X) → AllByRecursion (λ y. n x < n y) ys → AllByRecursion (λ y. n (f x) < n y) (map f ys)
    above [] a = tt
    above (y ∷ ys) a = (let e = same x in let g = same y in let lt = a.0 in omega (arith, e, g, lt), above ys a.1)

-- a list that a slice of the same length was written back into
all-back : {X : Type 0} (xs ys : List X) → length xs ≡ length ys → take (length ys) (xs ++ drop (length xs) ys) ≡ xs
all-back [] [] e = refl
all-back [] (y ∷ ys) e = absurd (omega (arith, e))
all-back (x ∷ xs) [] e = absurd (omega (arith, e))
all-back (x ∷ xs) (y ∷ ys) e = ap (λ zs. x ∷ zs) (all-back xs ys (omega (arith, e)))

pub put-back : {X : Type 0} (xs ys : List X) (n : ℕ) → length xs ≡ length ys → n ≡ length ys → take n (xs ++ drop (length xs) ys) ≡ xs
put-back xs ys n e len = ap (λ (k : ℕ). take k (xs ++ drop (length xs) ys)) len ∙ all-back xs ys e
