-- Numbers that rise, and the entries that are kept by them.
use Rattle.std.proofs.Common.{◌≡◌, ◌≢◌, ℕ, zero, suc, ◌+◌, ◌<◌, ◌≤◌, ◌||◌, inl, inr, Bool, true, false, cond, eqb, ltb, ltb-true, ltb-false, List, [], ◌∷◌, ◌++◌, map, length, get_or, Some, slice_get, refl, sym, ap, subst, ◌∙◌, arith, take, append-nil}
use Rattle.std.specs.Prelude.{filter, is_ok, slice_index_or, MatchResult, Ok, Err, Result}
use Rattle.std.specs.List.{AllByRecursion, list_any}
use Rattle.std.specs.List.Sorted.{IsNonDecreasingBy, IsPartitionPoint}
use Rattle.std.proofs.lemmas.Bool.{cases_lt, eq-eqb, ne_eqb, false≢true}
use Rattle.std.proofs.lemmas.List.{map_push}
use Rattle.std.proofs.lemmas.List.Elements.{filter_more}
use Rattle.std.proofs.lemmas.Option.{slice_get_within}
use Rattle.journal_book.specs.Entries.{Written}
use Rattle.journal_book.specs.Journals.{Rise, is_among}
use Rattle.journal_book.specs.Keeping.{AreOf, number_of, numbers_in}
use Rattle.journal_book.specs.Views.{item_of}
use Rattle.journal_book.specs.declared.kept.KeptEntry.{KeptEntry}
use Rattle.journal_book.proofs.Filled.{get-first}

-- tests

pub or-first : (b c : Bool) → b ≡ true → (b || c) ≡ true
or-first true c e = refl
or-first false c e = absurd (false≢true e)

pub or-second : (b c : Bool) → c ≡ true → (b || c) ≡ true
or-second true c e = refl
or-second false c e = e

-- in which place a number is

above-at : {X : Type 0} (n : X → ℕ) (m : ℕ) (xs : List X) (j : ℕ) (d : X)
    → AllByRecursion (λ (k : ℕ). m < k) (map n xs) → j < length xs → m < n (get_or xs j d)
above-at n m [] j d a lt = absurd (omega (arith, lt))
above-at n m (x ∷ xs) zero d a lt = a.0
above-at n m (x ∷ xs) (suc j) d a lt = above-at n m xs j d a.1 (omega (arith, lt))

rises : {X : Type 0} (n : X → ℕ) (xs : List X) (i j : ℕ) (d : X) → Rise (map n xs) → i < j
    → j < length xs → n (get_or xs i d) < n (get_or xs j d)
rises n [] i j d order less lt = absurd (omega (arith, lt))
rises n (x ∷ xs) i zero d order less lt = absurd (omega (arith, less))
rises n (x ∷ xs) zero (suc j) d order less lt = above-at n (n x) xs j d order.0 (omega (arith, lt))
rises n (x ∷ xs) (suc i) (suc j) d order less lt =
    rises n xs i j d order.1 (omega (arith, less)) (omega (arith, lt))

pub non-decreasing : {X : Type 0} (n : X → ℕ) (xs : List X) → Rise (map n xs) → IsNonDecreasingBy n xs
non-decreasing n xs order i j d le lt = elim (cases_lt i j) [
  | inl less ↦ let lower = rises n xs i j d order less lt in omega (arith, lower)
  | inr more ↦
      let e : i ≡ j = omega (arith, le, more) in
      let same : n (get_or xs i d) ≡ n (get_or xs j d) = ap (λ (k : ℕ). n (get_or xs k d)) e in
      omega (arith, same)
]

pub among-map : {X : Type 0} (n : X → ℕ) (xs : List X) (t : ℕ)
    → is_among (map n xs) t ≡ list_any (λ (x : X). eqb (n x) t) xs
among-map n [] t = refl
among-map n (x ∷ xs) t = ap (λ (b : Bool). eqb (n x) t || b) (among-map n xs t)

absent : {X : Type 0} (n : X → ℕ) (xs : List X) (t : ℕ)
    → ((k : ℕ) (d : X) → k < length xs → n (get_or xs k d) ≢ t)
    → list_any (λ (x : X). eqb (n x) t) xs ≡ false
absent n [] t f = refl
absent n (x ∷ xs) t f =
    rw (ne_eqb (n x) t (f 0 x (omega arith)))
    (absent n xs t (λ k d lt. f (suc k) d (omega (arith, lt))))

present : {X : Type 0} (n : X → ℕ) (xs : List X) (t i : ℕ) (d : X) → i < length xs
    → n (get_or xs i d) ≡ t → list_any (λ (x : X). eqb (n x) t) xs ≡ true
present n [] t i d lt e = absurd (omega (arith, lt))
present n (x ∷ xs) t zero d lt e =
    or-first (eqb (n x) t) (list_any (λ y. eqb (n y) t) xs) (eq-eqb (n x) t e)
present n (x ∷ xs) t (suc i) d lt e =
    or-second (eqb (n x) t) (list_any (λ y. eqb (n y) t) xs)
    (present n xs t i d (omega (arith, lt)) e)

abbrev Splits : {X : Type 0} → (X → ℕ) → ℕ → List X → ℕ → Type 0
Splits n t xs i = IsPartitionPoint (λ x. ltb (n x) t ≡ true) (λ x. ltb (n x) t ≡ false) xs i

pub none-past : {X : Type 0} (n : X → ℕ) (t : ℕ) (xs : List X) (i : ℕ) → Splits n t xs i
    → length xs ≤ i → is_among (map n xs) t ≡ false
none-past n t xs i split le =
    among-map n xs t
    ∙ absent n xs t (λ k d lt e.
    let lower = ltb-true (n (get_or xs k d)) t (split.0 k d (omega arith) (omega (arith, lt, le))) in
    absurd (omega (arith, lower, e)))

pub none-there : {X : Type 0} (n : X → ℕ) (t : ℕ) (xs : List X) (i : ℕ) (x : X) → Rise (map n xs)
    → Splits n t xs i → i < length xs → ((d : X) → x ≡ get_or xs i d) → n x ≢ t
    → is_among (map n xs) t ≡ false
none-there n t xs i x order split inside is not_so =
    among-map n xs t
    ∙ absent n xs t (λ k d lt e. elim (cases_lt k i) [
      | inl less ↦
          let lower = ltb-true (n (get_or xs k d)) t (split.0 k d (omega arith) less) in
          absurd (omega (arith, lower, e))
      | inr more ↦ elim (cases_lt i k) [
        | inl past ↦
            let upper = rises n xs i k d order past lt in
            let not_less = ltb-false (n (get_or xs i d)) t (split.1 i d (omega arith) inside) in
            absurd (omega (arith, upper, not_less, e))
        | inr back ↦
            let same : k ≡ i = omega (arith, more, back) in
            absurd (not_so (ap n (is d) ∙ sym (ap (λ (j : ℕ). n (get_or xs j d)) same) ∙ e))
      ]
    ])

pub some-there : {X : Type 0} (n : X → ℕ) (t : ℕ) (xs : List X) (i : ℕ) (x : X) → i < length xs
    → x ≡ get_or xs i x → n x ≡ t → is_among (map n xs) t ≡ true
some-there n t xs i x inside is e =
    among-map n xs t ∙ present n xs t i x inside (sym (ap n is) ∙ e)

-- whether a number is named

pub named-by : (xs : List ℕ) (x : ℕ) (r : Result ℕ ℕ)
    → MatchResult r (λ i. (i < length xs) × (get_or xs i 0 ≡ x))
    (λ i. (i ≤ length xs) × ((k : ℕ) → k < i → get_or xs k 0 < x)
    × ((k : ℕ) → i ≤ k → k < length xs → x < get_or xs k 0))
    → is_ok r ≡ is_among xs x
named-by xs x (Ok i) h = sym (present (λ (n : ℕ). n) xs x i 0 h.0 h.1)
named-by xs x (Err i) h = sym (absent (λ (n : ℕ). n) xs x (λ k d lt e. elim (cases_lt k i) [
  | inl less ↦ absurd (let below = h.1 k less in let same = at-default xs k d 0 lt in omega (arith, below, same, e))
  | inr more ↦ absurd (let above = h.2 k more lt in let same = at-default xs k d 0 lt in omega (arith, above, same, e))
]))
  where
    at-default : (ys : List ℕ) (j c d : ℕ) → j < length ys → get_or ys j c ≡ get_or ys j d
    at-default [] j c d lt = absurd (omega (arith, lt))
    at-default (y ∷ ys) zero c d lt = refl
    at-default (y ∷ ys) (suc j) c d lt = at-default ys j c d (omega (arith, lt))

-- what is kept of what was kept

pub filter-map : {X : Type 0} (n : X → ℕ) (p : ℕ → Bool) (xs : List X)
    → map n (filter (λ (x : X). p (n x)) xs) ≡ filter p (map n xs)
filter-map n p [] = refl
filter-map {X = X} n p (x ∷ xs) = by (p (n x)) (filter-map n p xs)
  where
    by : (b : Bool) → map n (filter (λ (y : X). p (n y)) xs) ≡ filter p (map n xs)
        → map n (cond b (x ∷ filter (λ (y : X). p (n y)) xs) (filter (λ (y : X). p (n y)) xs))
        ≡ cond b (n x ∷ filter p (map n xs)) (filter p (map n xs))
    by true e = ap (λ zs. n x ∷ zs) e
    by false e = e

pub of-filter : {R : Type 0} (ws : List Written) (p : KeptEntry R → Bool) (ks : List (KeptEntry R))
    → AreOf ws ks → AreOf ws (filter p ks)
of-filter ws p [] h = h
of-filter {R = R} ws p (k ∷ ks) h = by (p k) (of-filter ws p ks h.1)
  where
    by : (b : Bool) → AreOf ws (filter p ks) → AreOf ws (cond b (k ∷ filter p ks) (filter p ks))
    by true g = (h.0, g)
    by false g = g

pub of-at : {R : Type 0} (ws : List Written) (ks : List (KeptEntry R)) (i : ℕ) (k : KeptEntry R)
    → AreOf ws ks → i < length ks → k ≡ get_or ks i k
    → slice_get ws k.number ≡ Some (item_of k.entry)
of-at ws [] i k h lt is = absurd (omega (arith, lt))
of-at ws (x ∷ xs) zero k h lt is =
    subst (λ y. slice_get ws (number_of y) ≡ Some (item_of y.entry)) (sym is) h.0
of-at ws (x ∷ xs) (suc i) k h lt is = of-at ws xs i k h.1 (omega (arith, lt)) is

pub of-append : {R : Type 0} (ws : List Written) (ks js : List (KeptEntry R)) → AreOf ws ks
    → AreOf ws js → AreOf ws (ks ++ js)
of-append ws [] js h g = g
of-append ws (k ∷ ks) js h g = (h.0, of-append ws ks js h.1 g)

-- entries that are added change none
pub of-longer : {R : Type 0} (ws more : List Written) (ks : List (KeptEntry R)) → AreOf ws ks
    → AreOf (ws ++ more) ks
of-longer ws more [] h = tt
of-longer ws more (k ∷ ks) h = (
  get-first ws more k.number (slice_get_within ws k.number (item_of k.entry) h.0) ∙ h.0,
  of-longer ws more ks h.1,
)

-- each is before the last
pub of-below : {R : Type 0} (ws : List Written) (ks : List (KeptEntry R)) → AreOf ws ks
    → AllByRecursion (λ (n : ℕ). n < length ws) (numbers_in ks)
of-below ws [] h = tt
of-below ws (k ∷ ks) h = (slice_get_within ws k.number (item_of k.entry) h.0, of-below ws ks h.1)

pub non-decreasing-numbers : (xs : List ℕ) → Rise xs → (i j : ℕ) → i ≤ j → j < length xs
    → get_or xs i 0 ≤ get_or xs j 0
non-decreasing-numbers xs order i j le lt =
    non-decreasing (λ (n : ℕ). n) xs (subst Rise (sym (map-same xs)) order) i j 0 le lt
  where
    map-same : (ys : List ℕ) → map (λ (n : ℕ). n) ys ≡ ys
    map-same [] = refl
    map-same (y ∷ ys) = ap (λ zs. y ∷ zs) (map-same ys)

-- one more of those that are named

pub number-more : {R : Type 0} (p : ℕ → Bool) (named : List ℕ) (i : ℕ) (old new : List (KeptEntry R))
    (k : KeptEntry R) → i < length named → k.number ≡ get_or named i 0
    → p (get_or named i 0) ≡ true → new ≡ old ++ k ∷ []
    → numbers_in old ≡ filter p (take i named) → numbers_in new ≡ filter p (take (i + 1) named)
number-more p named i old new k lt is so more was =
    let test : filter p (take (i + 1) named) ≡ filter p (take i named) ++ get_or named i 0 ∷ [] =
    filter_more p named i 0 lt
    ∙ ap (λ (b : Bool). filter p (take i named) ++ cond b (get_or named i 0 ∷ []) []) so in
    ap (λ ks. numbers_in ks) more ∙ map_push number_of old k
    ∙ ap (λ (ns : List ℕ). ns ++ k.number ∷ []) was
    ∙ ap (λ (n : ℕ). filter p (take i named) ++ n ∷ []) is ∙ sym test

pub number-passed : (p : ℕ → Bool) (named : List ℕ) (i : ℕ) (old : List ℕ) → i < length named
    → p (get_or named i 0) ≡ false → old ≡ filter p (take i named)
    → old ≡ filter p (take (i + 1) named)
number-passed p named i old lt so was =
    was ∙ sym (filter_more p named i 0 lt
    ∙ ap (λ (b : Bool). filter p (take i named) ++ cond b (get_or named i 0 ∷ []) []) so
    ∙ append-nil (filter p (take i named)))

pub of-one : {R : Type 0} (ws : List Written) (k : KeptEntry R)
    → slice_get ws k.number ≡ Some (item_of k.entry) → AreOf ws (k ∷ [])
of-one ws k h = (h, tt)

-- the first segment, however it is read
pub same-first : {X : Type 0} (xs : List X) (a b : X) → a ≡ slice_index_or xs 0 a
    → b ≡ slice_index_or xs 0 b → 0 < length xs → a ≡ b
same-first [] a b is at some = absurd (omega (arith, some))
same-first (x ∷ xs) a b is at some = is ∙ sym at
