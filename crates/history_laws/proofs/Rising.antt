-- Lists of numbers that rise, and the openings, which do.
use Rattle.std.proofs.Common.{◌≡◌, ℕ, ◌<◌, ◌+◌, ◌⊎◌, Bool, true, false, cond, inl, inr, List, [], ◌∷◌, ◌++◌, length, Option, Some, None, refl, sym, subst, arith, zero, append-nil}
use Rattle.std.specs.Prelude.{filter}
use Rattle.std.specs.List.{AllByRecursion, Contains}
use Rattle.ask_model.specs.Requests.{CoapRequest}
use Rattle.history_laws.specs.Readings.{Noted}
use Rattle.history_laws.specs.Exchanges.{opened_by, opens_by, openings}
use Rattle.history_laws.proofs.Elements.{all-filter, all-more, all-push, contains-later}

abbrev pub Rising : List ℕ → Type 0
Rising [] = Unit {0}
Rising (n ∷ ns) = AllByRecursion (λ (m : ℕ). n < m) ns × Rising ns

pub rising-push : (ns : List ℕ) (n : ℕ) → Rising ns → AllByRecursion (λ (m : ℕ). m < n) ns → Rising (ns ++ n ∷ [])
rising-push [] n r a = (tt, tt)
rising-push (m ∷ ns) n r a = (all-push (λ (k : ℕ). m < k) ns n r.0 a.0, rising-push ns n r.1 a.1)

pub rising-filter : (q : ℕ → Bool) (ns : List ℕ) → Rising ns → Rising (filter q ns)
rising-filter q [] r = r
rising-filter q (n ∷ ns) r = by (q n) (rising-filter q ns r.1)
  where
    by : (b : Bool) → Rising (filter q ns) → Rising (cond b (n ∷ filter q ns) (filter q ns))
    by true h = (all-filter (λ (m : ℕ). n < m) q ns r.0, h)
    by false h = h

-- openings

opened-below : (n : ℕ) (q : Option CoapRequest) (os : List ℕ) → AllByRecursion (λ (o : ℕ). o < n) os → AllByRecursion (λ (o : ℕ). o < n + 1) (opened_by n q os)
opened-below n (Some q) os a = all-push (λ (o : ℕ). o < n + 1) os n (all-more (λ (o : ℕ). o < n) (λ (o : ℕ). o < n + 1) (λ o h. omega (arith, h)) os a) (omega arith)
opened-below n None os a = all-more (λ (o : ℕ). o < n) (λ (o : ℕ). o < n + 1) (λ o h. omega (arith, h)) os a

pub openings-below : (l : List Noted) → AllByRecursion (λ (o : ℕ). o < length l) (openings l)
openings-below [] = tt
openings-below (x ∷ older) =
    all-more (λ (o : ℕ). o < length older + 1) (λ (o : ℕ). o < length (x ∷ older)) (λ o h. omega (arith, h)) (opened_by (length older) (opens_by x.note) (openings older))
    (opened-below (length older) (opens_by x.note) (openings older) (openings-below older))

opened-rising : (n : ℕ) (q : Option CoapRequest) (os : List ℕ) → Rising os → AllByRecursion (λ (o : ℕ). o < n) os → Rising (opened_by n q os)
opened-rising n (Some q) os r a = rising-push os n r a
opened-rising n None os r a = r

pub openings-rising : (l : List Noted) → Rising (openings l)
openings-rising [] = tt
openings-rising (x ∷ older) = opened-rising (length older) (opens_by x.note) (openings older) (openings-rising older) (openings-below older)

-- A list that rises, and whose members are one, has one at most.
abbrev pub IsOneAtMost : List ℕ → Type 0
IsOneAtMost ns = (ns ≡ []) ⊎ ((n : ℕ) × (ns ≡ n ∷ []))

pub one-at-most : (ns : List ℕ) → Rising ns → ((a b : ℕ) → Contains ns a → Contains ns b → a ≡ b) → IsOneAtMost ns
one-at-most [] r same = inl refl
one-at-most (o ∷ []) r same = inr (o, refl)
one-at-most (o ∷ q ∷ ns) r same =
    let e = same o q (zero, omega arith, refl) (contains-later o (q ∷ ns) q (zero, omega arith, refl)) in
    let lt = r.0.0 in absurd (omega (arith, e, lt))

-- lists that rise by what is said of their members

abbrev pub RisesBy : (ℕ → ℕ) → List ℕ → Type 0
RisesBy f [] = Unit {0}
RisesBy f (o ∷ os) = AllByRecursion (λ (q : ℕ). f o < f q) os × RisesBy f os

pub rises-filter : (f : ℕ → ℕ) (q : ℕ → Bool) (os : List ℕ) → RisesBy f os → RisesBy f (filter q os)
rises-filter f q [] r = r
rises-filter f q (o ∷ os) r = by (q o) (rises-filter f q os r.1)
  where
    by : (b : Bool) → RisesBy f (filter q os) → RisesBy f (cond b (o ∷ filter q os) (filter q os))
    by true h = (all-filter (λ (k : ℕ). f o < f k) q os r.0, h)
    by false h = h

pub rises-as : (f g : ℕ → ℕ) (os : List ℕ) → AllByRecursion (λ (o : ℕ). f o ≡ g o) os → RisesBy f os → RisesBy g os
rises-as f g [] same r = r
rises-as f g (o ∷ os) same r = (both os same.1 r.0, rises-as f g os same.1 r.1)
  where
    both : (qs : List ℕ) → AllByRecursion (λ (q : ℕ). f q ≡ g q) qs → AllByRecursion (λ (q : ℕ). f o < f q) qs → AllByRecursion (λ (q : ℕ). g o < g q) qs
    both [] s a = tt
    both (q ∷ qs) s a = (let lt = a.0 in let here = same.0 in let there = s.0 in omega (arith, lt, here, there), both qs s.1 a.1)

rises-push : (f : ℕ → ℕ) (os : List ℕ) (o : ℕ) → RisesBy f os → AllByRecursion (λ (q : ℕ). f q < f o) os → RisesBy f (os ++ o ∷ [])
rises-push f [] o r a = (tt, tt)
rises-push f (q ∷ os) o r a = (all-push (λ (k : ℕ). f q < f k) os o r.0 a.0, rises-push f os o r.1 a.1)

-- one more at the end, of which more is said
pub rises-join : (f : ℕ → ℕ) (k : ℕ) (os ns : List ℕ) → RisesBy f os → AllByRecursion (λ (q : ℕ). f q < k) os → IsOneAtMost ns
    → AllByRecursion (λ (q : ℕ). f q ≡ k) ns → RisesBy f (os ++ ns)
rises-join f k os ns r below (inl e) is = subst (λ (v : List ℕ). RisesBy f (os ++ v)) (sym e) (subst (RisesBy f) (sym (append-nil os)) r)
rises-join f k os ns r below (inr one) is =
    let last : AllByRecursion (λ (q : ℕ). f q ≡ k) (one.0 ∷ []) = subst (AllByRecursion (λ (q : ℕ). f q ≡ k)) one.1 is in
    subst (λ (v : List ℕ). RisesBy f (os ++ v)) (sym one.1)
    (rises-push f os one.0 r (all-more (λ (q : ℕ). f q < k) (λ (q : ℕ). f q < f one.0) (λ q lt. let e = last.0 in omega (arith, lt, e)) os below))
