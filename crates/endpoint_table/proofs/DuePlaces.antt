-- The places of the timers that have run out, from the first timers on, and in order.
use Rattle.std.proofs.Common.{◌≡◌, ℕ, suc, ◌+◌, ◌<◌, ◌≤◌, Bool, true, false, cond, List, [], ◌∷◌, ◌++◌, length, drop, get_or, Option, Some, None, inl, inr, refl, sym, ap, ◌∙◌, arith, append-nil, append_assoc, zero-add}
use Rattle.std.specs.Prelude.{nat_le, ◌==◌, sum_by}
use Rattle.std.specs.List.{AllByRecursion}
use Rattle.std.specs.List.Sorted.{IsNonDecreasingBy, IsPermutation, IsSorted}
use Rattle.std.specs.Ordering.{nat_cmp}
use Rattle.std.proofs.lemmas.Bool.{eq-eqb, false≢true, leb-false, lt-leb, ne_eqb}
use Rattle.std.proofs.lemmas.List.{drop_more}
use Rattle.std.proofs.lemmas.List.Sums.{sum_by-cons}
use Rattle.std.proofs.lemmas.List.Sorted.{sum_by-IsPermutation, IsNonDecreasingBy-from_sort}
use Rattle.message_layer.specs.Mids.{AreRising}
use Rattle.exchange_model.specs.Due.{has_come}
use Rattle.endpoint_table.specs.declared.dues.Due.{Due}
use Rattle.endpoint_table.specs.Dues.{dues_from, first_places, inserted, is_before, put, due_places}
use Rattle.endpoint_table.proofs.TimerOrder.{after-is, before-is, three, After, Before}

-- how often a place is among them

abbrev once : ℕ → ℕ → ℕ
once q p = cond (p == q) 1 0

abbrev times : ℕ → List ℕ → ℕ
times q [] = 0
times q (p ∷ ps) = once q p + times q ps

times-sum : (q : ℕ) (ps : List ℕ) → times q ps ≡ sum_by (λ (p : ℕ). once q p) ps
times-sum q [] = refl
times-sum q (p ∷ ps) =
    ap (λ (k : ℕ). once q p + k) (times-sum q ps)
    ∙ sym (sum_by-cons (λ (r : ℕ). once q r) p ps)

module _ (t q : ℕ) where
  abbrev has : Due → ℕ
  has e = cond (nat_le e.due t) (once q e.place) 0

  -- an earlier one has run out where a later one has
  sooner : (d e : Due) → d.due ≤ e.due → nat_le d.due t ≡ false → nat_le e.due t ≡ false
  sooner d e le f = let gt = leb-false d.due t f in lt-leb e.due t (omega (arith, le, gt))

  before-le : (d e : Due) → is_before d e ≡ true → d.due ≤ e.due
  before-le d e h = by (before-is d e h)
    where
      by : Before d e → d.due ≤ e.due
      by (inl lt) = omega (arith, lt)
      by (inr both) = let same = both.0 in omega (arith, same)

  after-le : (d e : Due) → is_before d e ≡ false → e.due ≤ d.due
  after-le d e h = by (after-is d e h)
    where
      by : After d e → e.due ≤ d.due
      by (inl lt) = omega (arith, lt)
      by (inr both) = let same = both.0 in omega (arith, same)

  times-inserted : (e : Due) (ds : List Due)
      → times q (first_places t (inserted e ds)) ≡ has e + times q (first_places t ds)
  times-inserted e [] = by (nat_le e.due t)
    where
      by : (b : Bool) → times q (cond b (e.place ∷ []) []) ≡ cond b (once q e.place) 0 + 0
      by true = refl
      by false = refl
  times-inserted e (d ∷ ds) =
      by (is_before d e) refl (nat_le d.due t) refl (nat_le e.due t) refl (times-inserted e ds)
    where
      by : (a : Bool) → is_before d e ≡ a → (b : Bool) → nat_le d.due t ≡ b
          → (c : Bool) → nat_le e.due t ≡ c
          → times q (first_places t (inserted e ds))
          ≡ cond c (once q e.place) 0 + times q (first_places t ds)
          → times q (first_places t (cond a (d ∷ inserted e ds) (e ∷ d ∷ ds)))
          ≡ cond c (once q e.place) 0 + times q (cond b (d.place ∷ first_places t ds) [])
      by true f true g c h ih =
          let n = once q d.place in
          let m = cond c (once q e.place) 0 in
          let k = times q (first_places t ds) in
          rw (g) (ap (λ (j : ℕ). n + j) ih ∙ swap n m k)
        where
          swap : (n m k : ℕ) → n + (m + k) ≡ m + (n + k)
          swap n m k = omega arith
      by true f false g true h ih =
          absurd (false≢true (sym (sooner d e (before-le d e f) g) ∙ h))
      by true f false g false h ih = rw (g) refl
      by false f b g true h ih = rw (h, g) refl
      by false f true g false h ih =
          absurd (false≢true (sym (sooner e d (after-le d e f) h) ∙ g))
      by false f false g false h ih = rw (h) refl

  times-put : (i : ℕ) (o : Option ℕ) (ds : List Due) → times q (first_places t (put i o ds))
      ≡ cond (has_come t o) (once q i) 0 + times q (first_places t ds)
  times-put i None ds = sym (zero-add (times q (first_places t ds)))
  times-put i (Some m) ds = times-inserted (record { due = m; place = i }) ds

  pub times-from : (i : ℕ) (ts : List (Option ℕ))
      → times q (first_places t (dues_from i ts)) ≡ times q (due_places t i ts)
  times-from i [] = refl
  times-from i (o ∷ ts) =
      times-put i o (dues_from (i + 1) ts)
      ∙ by (has_come t o) (times-from (i + 1) ts)
    where
      by : (b : Bool) → times q (first_places t (dues_from (i + 1) ts))
          ≡ times q (due_places t (i + 1) ts)
          → cond b (once q i) 0 + times q (first_places t (dues_from (i + 1) ts))
          ≡ times q (cond b (i ∷ due_places t (i + 1) ts) (due_places t (i + 1) ts))
      by true ih = ap (λ (k : ℕ). once q i + k) ih
      by false ih = zero-add (times q (first_places t (dues_from (i + 1) ts))) ∙ ih

-- Lists that rise and have the same numbers as often are equal.

from-on : (t i j : ℕ) (ts : List (Option ℕ)) → j ≤ i
    → AllByRecursion (λ (p : ℕ). j ≤ p) (due_places t i ts)
from-on t i j [] le = tt
from-on t i j (o ∷ ts) le = by (has_come t o) (from-on t (i + 1) j ts (omega (arith, le)))
  where
    by : (b : Bool) → AllByRecursion (λ (p : ℕ). j ≤ p) (due_places t (i + 1) ts)
        → AllByRecursion (λ (p : ℕ). j ≤ p)
        (cond b (i ∷ due_places t (i + 1) ts) (due_places t (i + 1) ts))
    by true rest = (le, rest)
    by false rest = rest

rises : (t i : ℕ) (ts : List (Option ℕ)) → AreRising (due_places t i ts)
rises t i [] = tt
rises t i (o ∷ ts) = by (has_come t o) (rises t (i + 1) ts)
  where
    by : (b : Bool) → AreRising (due_places t (i + 1) ts)
        → AreRising (cond b (i ∷ due_places t (i + 1) ts) (due_places t (i + 1) ts))
    by true rest = (from-on t (i + 1) i ts (omega arith), rest)
    by false rest = rest

never : (q : ℕ) (ps : List ℕ) (p : ℕ) → q < p → AllByRecursion (λ (r : ℕ). p ≤ r) ps
    → times q ps ≡ 0
never q [] p lt a = refl
never q (r ∷ ps) p lt a =
    let le = a.0 in
    rw (ne_eqb r q (λ e. absurd (omega (arith, e, lt, le))))
    (zero-add (times q ps) ∙ never q ps p lt a.1)

there : (q : ℕ) (ps : List ℕ) → times q (q ∷ ps) ≡ 1 + times q ps
there q ps = rw (eq-eqb q q refl) refl

not-less : (x y : ℕ) (xs ys : List ℕ) → AllByRecursion (λ (r : ℕ). y ≤ r) ys
    → times x (x ∷ xs) ≡ times x (y ∷ ys) → x < y → ⊥
not-less x y xs ys above same lt =
    let none : times x (y ∷ ys) ≡ 0 = never x (y ∷ ys) y lt (omega arith, above) in
    let e : 1 + times x xs ≡ 0 = sym (there x xs) ∙ (same ∙ none) in
    omega (arith, e)

pub same-rising : (xs ys : List ℕ) → AreRising xs → AreRising ys
    → ((q : ℕ) → times q xs ≡ times q ys) → xs ≡ ys
same-rising [] [] a b h = refl
same-rising [] (y ∷ ys) a b h =
    let e : 1 + times y ys ≡ 0 = sym (there y ys) ∙ sym (h y) in absurd (omega (arith, e))
same-rising (x ∷ xs) [] a b h =
    let e : 1 + times x xs ≡ 0 = sym (there x xs) ∙ h x in absurd (omega (arith, e))
same-rising (x ∷ xs) (y ∷ ys) a b h =
    let head : x ≡ y = first in
    let tail : (q : ℕ) → times q xs ≡ times q ys = λ q.
    less (once q x) (times q xs) (times q ys)
    (h q ∙ ap (λ (p : ℕ). once q p + times q ys) (sym head)) in
    ap (λ (p : ℕ). p ∷ xs) head ∙ ap (λ (ps : List ℕ). y ∷ ps) (same-rising xs ys a.1 b.1 tail)
  where
    less : (n m k : ℕ) → n + m ≡ n + k → m ≡ k
    less n m k e = omega (arith, e)

    first : x ≡ y
    first = elim (three x y) [
      | inl lt ↦ absurd (not-less x y xs ys b.0 (h x) lt)
      | inr rest ↦ elim rest [
        | inl is ↦ is
        | inr lt ↦ absurd (not-less y x ys xs a.0 (sym (h y)) lt)
      ]
    ]

-- The first places, sorted, are those that have run out.

above : (x : ℕ) (xs : List ℕ) → ((j d : ℕ) → j < length xs → x ≤ get_or xs j d)
    → AllByRecursion (λ (r : ℕ). x ≤ r) xs
above x [] h = tt
above x (y ∷ ys) h =
    (h 0 0 (omega arith), above x ys (λ j d lt. h (suc j) d (omega (arith, lt))))

rising-sorted : (xs : List ℕ) → IsNonDecreasingBy (λ (x : ℕ). x) xs → AreRising xs
rising-sorted [] h = tt
rising-sorted (x ∷ xs) h = (
  above x xs (λ j d lt. h 0 (suc j) d (omega arith) (omega (arith, lt))),
  rising-sorted xs (λ i j d le lt. h (suc i) (suc j) d (omega (arith, le)) (omega (arith, lt))),
)

pub sorted-are : (t : ℕ) (ts : List (Option ℕ)) (ds : List Due) (ps qs : List ℕ)
    → ds ≡ dues_from 0 ts → ps ≡ first_places t ds → IsPermutation ps qs → IsSorted nat_cmp qs
    → qs ≡ due_places t 0 ts
sorted-are t ts ds ps qs are firsts same sorted =
    same-rising qs (due_places t 0 ts)
    (rising-sorted qs (IsNonDecreasingBy-from_sort (λ (x : ℕ). x) qs sorted)) (rises t 0 ts)
    (λ q. times-sum q qs
    ∙ (sum_by-IsPermutation (λ (p : ℕ). once q p) ps qs same
    ∙ (sym (times-sum q ps)
    ∙ (ap (times q) (firsts ∙ ap (first_places t) are) ∙ times-from t q 0 ts))))

-- one place more of the first ones
pub first-more : (t : ℕ) (ps all : List ℕ) (ds : List Due) (i : ℕ) (d : Due) → i < length ds
    → d ≡ get_or ds i d → nat_le d.due t ≡ true → ps ++ first_places t (drop i ds) ≡ all
    → (ps ++ d.place ∷ []) ++ first_places t (drop (i + 1) ds) ≡ all
first-more t ps all ds i d lt is has so_far =
    append_assoc ps (d.place ∷ []) (first_places t (drop (i + 1) ds))
    ∙ (ap (λ (b : Bool). ps ++ cond b (d.place ∷ first_places t (drop (i + 1) ds)) []) (sym has)
    ∙ (ap (λ (es : List Due). ps ++ first_places t es)
    (ap (λ (e : Due). e ∷ drop (i + 1) ds) is ∙ sym (drop_more ds i d lt)) ∙ so_far))

pub first-done : (t : ℕ) (ps all : List ℕ) (ds : List Due) (i : ℕ) (d : Due) → i < length ds
    → d ≡ get_or ds i d → nat_le d.due t ≡ false → ps ++ first_places t (drop i ds) ≡ all
    → ps ≡ all
first-done t ps all ds i d lt is none so_far =
    sym (append-nil ps)
    ∙ (ap (λ (b : Bool). ps ++ cond b (d.place ∷ first_places t (drop (i + 1) ds)) []) (sym none)
    ∙ (ap (λ (es : List Due). ps ++ first_places t es)
    (ap (λ (e : Due). e ∷ drop (i + 1) ds) is ∙ sym (drop_more ds i d lt)) ∙ so_far))
