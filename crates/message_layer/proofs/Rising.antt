-- Moments that rise: what is in use no more stands in front.
use Rattle.std.proofs.Common.{◌≡◌, ℕ, ◌+◌, ◌-◌, ◌≤◌, ◌<◌, List, [], ◌∷◌, ◌++◌, length, drop, filter, count_by, slice_get, None, Some, Bool, ◌&&◌, true, false, not, cond, nat_le, refl, sym, ◌∙◌, ap, arith}
use Rattle.std.specs.List.{AllByRecursion}
use Rattle.std.proofs.lemmas.Bool.{lt-ltb, leb-true}
use Rattle.std.proofs.lemmas.List.Sums.{length-filter, count_by-le-length}
use Rattle.message_layer.specs.Mids.{is_in_use, begins_unused, AreRising, IsRising}
use Rattle.message_layer.specs.Kept.{is_since}
use Rattle.message_layer.proofs.KeptLaws.{filter-alike}
use Rattle.message_layer.proofs.Sound.{either}
use Rattle.std.proofs.lemmas.Bool.Decides.{nat_tests}
use borrow.Author.Tests.{ltb-true}

all-push : (P : ℕ → Type 0) (xs : List ℕ) (m : ℕ) → AllByRecursion P xs → P m → AllByRecursion P (xs ++ m ∷ [])
all-push P [] m h p = (p, tt)
all-push P (x ∷ xs) m h p = (h.0, all-push P xs m h.1 p)

all-below : (n m : ℕ) (xs : List ℕ) → n ≤ m → AllByRecursion (λ x. x ≤ n) xs → AllByRecursion (λ x. x ≤ m) xs
all-below n m [] up h = tt
all-below n m (x ∷ xs) up h = (omega (arith, up, h.0), all-below n m xs up h.1)

rising-push : (xs : List ℕ) (m : ℕ) → AreRising xs → AllByRecursion (λ x. x ≤ m) xs → AreRising (xs ++ m ∷ [])
rising-push [] m r h = (tt, tt)
rising-push (x ∷ xs) m r h = (all-push (λ later. x ≤ later) xs m r.0 h.0, rising-push xs m r.1 h.1)

pub IsRising-push : (n m : ℕ) (xs : List ℕ) → n ≤ m → IsRising n xs → IsRising m (xs ++ m ∷ [])
IsRising-push n m xs up h = record {
  rising = rising-push xs m h.rising (all-below n m xs up h.latest);
  latest = all-push (λ x. x ≤ m) xs m (all-below n m xs up h.latest) (omega arith);
}

-- what a clock that goes on shows
pub goes-on : (rising : Bool) (newest t : ℕ) → (rising && nat_le newest t) ≡ true → (rising ≡ true) × (newest ≤ t)
goes-on true newest t e = (refl, leb-true newest t e)
goes-on false newest t e = absurd cc

all-filter : (P : ℕ → Type 0) (p : ℕ → Bool) (xs : List ℕ) → AllByRecursion P xs → AllByRecursion P (filter p xs)
all-filter P p [] h = tt
all-filter P p (x ∷ xs) h = either (AllByRecursion P) (p x) _ _ (λ e. (h.0, all-filter P p xs h.1)) (λ e. all-filter P p xs h.1)

rising-filter : (p : ℕ → Bool) (xs : List ℕ) → AreRising xs → AreRising (filter p xs)
rising-filter p [] r = tt
rising-filter p (x ∷ xs) r = either (λ (ys : List ℕ). AreRising ys) (p x) _ _ (λ e. (all-filter (λ later. x ≤ later) p xs r.0, rising-filter p xs r.1)) (λ e. rising-filter p xs r.1)

pub IsRising-filter : (n : ℕ) (p : ℕ → Bool) (xs : List ℕ) → IsRising n xs → IsRising n (filter p xs)
IsRising-filter n p xs h = record { rising = rising-filter p xs h.rising; latest = all-filter (λ x. x ≤ n) p xs h.latest }

filter-taken : (p : ℕ → Bool) (x : ℕ) (xs : List ℕ) → p x ≡ true → filter p (x ∷ xs) ≡ x ∷ filter p xs
filter-taken p x xs e = ap (λ (b : Bool). cond b (x ∷ filter p xs) (filter p xs)) e

filter-left : (p : ℕ → Bool) (x : ℕ) (xs : List ℕ) → p x ≡ false → filter p (x ∷ xs) ≡ filter p xs
filter-left p x xs e = ap (λ (b : Bool). cond b (x ∷ filter p xs) (filter p xs)) e

-- what is given later is in use as long
all-used : (t x : ℕ) (xs : List ℕ) → is_in_use t x ≡ true → AllByRecursion (λ later. x ≤ later) xs → filter (is_in_use t) xs ≡ xs
all-used t x [] e h = refl
all-used t x (y ∷ ys) e h =
    let later : x ≤ y = h.0 in
    let near : t - x < 494000 = ltb-true (t - x) 494000 e in
    let used : is_in_use t y ≡ true = lt-ltb (t - y) 494000 (omega (arith, later, near)) in
    filter-taken (is_in_use t) y ys used ∙ ap (λ (zs : List ℕ). y ∷ zs) (all-used t x ys e h.1)

not-not : (b : Bool) → not b ≡ false → b ≡ true
not-not true e = refl
not-not false e = absurd cc

not-true : (b : Bool) → not b ≡ true → b ≡ false
not-true false e = refl
not-true true e = absurd cc

pub filter-kept : (t : ℕ) (xs : List ℕ) → AreRising xs → begins_unused t xs ≡ false → filter (is_in_use t) xs ≡ xs
filter-kept t [] r e = refl
filter-kept t (x ∷ xs) r e =
    let used : is_in_use t x ≡ true = not-not (is_in_use t x) e in
    filter-taken (is_in_use t) x xs used ∙ ap (λ (ys : List ℕ). x ∷ ys) (all-used t x xs used r.0)

-- how many are in use
all-counted : (t : ℕ) (xs : List ℕ) → AreRising xs → begins_unused t xs ≡ false → count_by (is_in_use t) xs ≡ length xs
all-counted t xs r e = sym (length-filter (is_in_use t) xs) ∙ ap (λ (ys : List ℕ). length ys) (filter-kept t xs r e)

fewer-counted : (t : ℕ) (xs : List ℕ) → begins_unused t xs ≡ true → count_by (is_in_use t) xs < length xs
fewer-counted t [] e = absurd cc
fewer-counted t (x ∷ xs) e =
    let left : filter (is_in_use t) (x ∷ xs) ≡ filter (is_in_use t) xs = filter-left (is_in_use t) x xs (not-true (is_in_use t x) e) in
    let same : count_by (is_in_use t) (x ∷ xs) ≡ count_by (is_in_use t) xs = sym (length-filter (is_in_use t) (x ∷ xs)) ∙ ap (λ (ys : List ℕ). length ys) left ∙ length-filter (is_in_use t) xs in
    let fits : count_by (is_in_use t) xs ≤ length xs = count_by-le-length (is_in_use t) xs in
    rw same (omega (arith, fits))

-- where as many stand as may be in use, one is free exactly if the oldest one is in use no more
pub free-unused : (t waiting : ℕ) (xs : List ℕ) → length xs + waiting ≤ 32768 → begins_unused t xs ≡ true → count_by (is_in_use t) xs + waiting < 32768
free-unused t waiting xs few e = let less : count_by (is_in_use t) xs < length xs = fewer-counted t xs e in omega (arith, few, less)

pub unused-free : (t waiting : ℕ) (xs : List ℕ) → AreRising xs → 32768 ≤ length xs + waiting → count_by (is_in_use t) xs + waiting < 32768 → begins_unused t xs ≡ true
unused-free t waiting xs r many free = by (begins_unused t xs) refl
  where
    by : (b : Bool) → begins_unused t xs ≡ b → b ≡ true
    by true e = refl
    by false e = let all : count_by (is_in_use t) xs ≡ length xs = all-counted t xs r e in absurd (omega (arith, many, free, all))

-- the first moment at which one was given that is in use
used-test : (t given : ℕ) → is_in_use t given ≡ nat_le (t - 493999) given
used-test t given = grind (arith, nat_tests)

pub used-since : (t : ℕ) (xs : List ℕ) → filter (is_in_use t) xs ≡ filter (is_since (λ m. m) (t - 493999)) xs
used-since t xs = filter-alike (is_in_use t) (is_since (λ m. m) (t - 493999)) (used-test t) xs

pub count-used : (t : ℕ) (xs : List ℕ) → count_by (is_in_use t) xs ≡ count_by (is_since (λ m. m) (t - 493999)) xs
count-used t xs =
    sym (length-filter (is_in_use t) xs) ∙ ap (λ (ys : List ℕ). length ys) (used-since t xs)
    ∙ length-filter (is_since (λ m. m) (t - 493999)) xs

-- the first one, as it is read
pub begins-none : (t : ℕ) (xs : List ℕ) → slice_get xs 0 ≡ None → begins_unused t xs ≡ false
begins-none t [] e = refl
begins-none t (x ∷ xs) e = absurd cc

pub begins-first : (t given : ℕ) (xs : List ℕ) → slice_get xs 0 ≡ Some given → begins_unused t xs ≡ not (is_in_use t given)
begins-first t given [] e = absurd cc
begins-first t given (x ∷ xs) e = let same : x ≡ given = cc in ap (λ (g : ℕ). not (is_in_use t g)) same

-- the first one goes, which is in use no more
pub record IsShorter (t : ℕ) (xs : List ℕ) : Type 0 where
  pub some : 0 < length xs
  pub rising : AreRising (drop 1 xs)
  pub same : filter (is_in_use t) (drop 1 xs) ≡ filter (is_in_use t) xs
  pub shorter : length (drop 1 xs) < length xs

pub is-shorter : (t : ℕ) (xs : List ℕ) → AreRising xs → begins_unused t xs ≡ true → IsShorter t xs
is-shorter t [] r e = absurd cc
is-shorter t (x ∷ xs) r e = record {
  some = omega arith;
  rising = r.1;
  same = sym (filter-left (is_in_use t) x xs (not-true (is_in_use t x) e));
  shorter = omega arith;
}
