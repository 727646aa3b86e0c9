-- Pairs in slots: which pairs there are, and what using, emptying and filling a slot make of them.
use Rattle.std.proofs.Common.{◌≡◌, ◌≢◌, ℕ, zero, suc, ◌-◌, ◌<◌, ◌≤◌, Bool, true, false, not, cond, eqb, List, [], ◌∷◌, ◌++◌, length, get_or, Option, Some, None, inl, inr, refl, sym, ap, subst, ◌∙◌, arith}
use Rattle.std.specs.List.{AllByRecursion, find, list_any}
use Rattle.std.proofs.Math.ListN.{set}
use Rattle.std.proofs.lemmas.List.{get_or-set_same, get_or-set_other}
use Rattle.std.proofs.lemmas.Bool.{false≢true}
use Rattle.std.proofs.lemmas.Bool.Decides.{eqb_tells}
use Rattle.cache_key.specs.Keys.{CacheKey, same_key}
use Rattle.resp_cache.specs.Rings.{Apart, Lacks, is_in, last_of, without}
use Rattle.resp_cache.specs.Slots.{AreEmpty, ArePacked, Puts, holds, pairs_in, slot_at, with_pair}
use Rattle.resp_cache.specs.Stores.{KeysApart, is_of, others}
use Rattle.resp_cache.specs.declared.pair.Pair.{Pair}
use Rattle.resp_cache.proofs.Apart.{other_way, same_itself}
use Rattle.resp_cache.proofs.Lists.{is_false, none_dropped, or_false}
use Rattle.resp_cache.proofs.Linking.{differ, in_rest, is_same, lacks_without, not_same, without_first, without_other}

-- what is written into the slots

pub puts_set : (slots after : List (Option Pair)) (s : ℕ) (o : Option Pair) → 0 < s → s ≤ length slots → after ≡ set slots (s - 1) o → Puts slots after s o
puts_set slots after zero o some le is t = absurd (omega (arith, some))
puts_set slots after (suc i) o some le is zero = sym (ap (λ (b : Bool). cond b o None) (not_same 0 (suc i) (λ e. absurd (omega (arith, e)))))
puts_set slots after (suc i) o some le is (suc j) =
    let place : suc i - 1 ≡ i = omega arith in
    let made : after ≡ set slots i o = is ∙ ap (λ (k : ℕ). set slots k o) place in
    elim (eqb_tells j i) [
      | inl w ↦ ap (λ (xs : List (Option Pair)). get_or xs j None) made ∙ (ap (λ (k : ℕ). get_or (set slots i o) k None) w.1 ∙ (get_or-set_same slots i o None (omega (arith, le)) ∙ sym (here w.1)))
      | inr w ↦ ap (λ (xs : List (Option Pair)). get_or xs j None) made ∙ (get_or-set_other slots i j o None (differ j i w.0) ∙ sym (there (differ j i w.0)))
    ]
  where
    here : j ≡ i → cond (eqb (suc j) (suc i)) o (slot_at slots (suc j)) ≡ o
    here e = ap (λ (b : Bool). cond b o (slot_at slots (suc j))) (is_same (suc j) (suc i) (ap suc e))

    there : j ≢ i → cond (eqb (suc j) (suc i)) o (slot_at slots (suc j)) ≡ slot_at slots (suc j)
    there other = ap (λ (b : Bool). cond b o (slot_at slots (suc j))) (is_false (eqb (suc j) (suc i)) (λ e. elim (eqb_tells (suc j) (suc i)) [
      | inl w ↦ other (let same = w.1 in omega (arith, same))
      | inr w ↦ false≢true (sym w.0 ∙ e)
    ]))

pub puts_here : (slots after : List (Option Pair)) (s : ℕ) (o : Option Pair) → Puts slots after s o → slot_at after s ≡ o
puts_here slots after s o puts = puts s ∙ ap (λ (b : Bool). cond b o (slot_at slots s)) (is_same s s refl)

pub puts_other : (slots after : List (Option Pair)) (s : ℕ) (o : Option Pair) (t : ℕ) → t ≢ s → Puts slots after s o → slot_at after t ≡ slot_at slots t
puts_other slots after s o t other puts = puts t ∙ ap (λ (b : Bool). cond b o (slot_at slots t)) (is_false (eqb t s) (λ e. elim (eqb_tells t s) [ inl w ↦ absurd (other w.1) | inr w ↦ false≢true (sym w.0 ∙ e) ]))

-- one more slot, which is empty
pub one_empty : (slots : List (Option Pair)) (t : ℕ) → slot_at (slots ++ None ∷ []) t ≡ slot_at slots t
one_empty slots zero = refl
one_empty slots (suc i) = by slots i
  where
    by : (xs : List (Option Pair)) (i : ℕ) → get_or (xs ++ None ∷ []) i None ≡ get_or xs i None
    by [] zero = refl
    by [] (suc i) = refl
    by (x ∷ xs) zero = refl
    by (x ∷ xs) (suc i) = by xs i

past_none : (xs : List (Option Pair)) (i : ℕ) → length xs ≤ i → get_or xs i None ≡ None
past_none [] i le = refl
past_none (x ∷ xs) zero le = absurd (omega (arith, le))
past_none (x ∷ xs) (suc i) le = past_none xs i (omega (arith, le))

pub past_empty : (slots : List (Option Pair)) (s : ℕ) → length slots < s → slot_at slots s ≡ None
past_empty slots zero lt = refl
past_empty slots (suc i) lt = past_none slots i (omega (arith, lt))

-- a slot that is taken is one of them
pub is_within : (slots : List (Option Pair)) (s : ℕ) (p : Pair) → slot_at slots s ≡ Some p → (0 < s) × (s ≤ length slots)
is_within slots zero p at = absurd cc
is_within slots (suc i) p at = (omega arith, let lt = inside slots i at in omega (arith, lt))
  where
    inside : (xs : List (Option Pair)) (i : ℕ) → get_or xs i None ≡ Some p → i < length xs
    inside [] i at = absurd cc
    inside (x ∷ xs) zero at = omega arith
    inside (x ∷ xs) (suc i) at = let lt = inside xs i at in omega (arith, lt)

-- slots that stay have the same pairs

pub pairs_same : (slots after : List (Option Pair)) (os : List ℕ) → ((t : ℕ) → slot_at after t ≡ slot_at slots t) → pairs_in after os ≡ pairs_in slots os
pairs_same slots after [] same = refl
pairs_same slots after (x ∷ xs) same = ap (λ (o : Option Pair). with_pair o (pairs_in after xs)) (same x) ∙ ap (with_pair (slot_at slots x)) (pairs_same slots after xs same)

pub pairs_kept : (slots after : List (Option Pair)) (os : List ℕ) (s : ℕ) (o : Option Pair) → Lacks s os → Puts slots after s o → pairs_in after os ≡ pairs_in slots os
pairs_kept slots after [] s o l puts = refl
pairs_kept slots after (x ∷ xs) s o l puts = ap (λ (r : Option Pair). with_pair r (pairs_in after xs)) (puts_other slots after s o x l.0 puts) ∙ ap (with_pair (slot_at slots x)) (pairs_kept slots after xs s o l.1 puts)

pub pairs_push : (slots : List (Option Pair)) (os : List ℕ) (s : ℕ) → slot_at slots s ≡ None → pairs_in slots (os ++ s ∷ []) ≡ pairs_in slots os
pairs_push slots [] s empty = ap (λ (o : Option Pair). with_pair o []) empty
pairs_push slots (x ∷ xs) s empty = ap (with_pair (slot_at slots x)) (pairs_push slots xs s empty)

-- an empty slot has no part in them
pub pairs_without_empty : (slots : List (Option Pair)) (os : List ℕ) (s : ℕ) → slot_at slots s ≡ None → pairs_in slots (without s os) ≡ pairs_in slots os
pairs_without_empty slots [] s empty = refl
pairs_without_empty slots (x ∷ xs) s empty = by (eqb x s) refl (pairs_without_empty slots xs s empty)
  where
    by : (b : Bool) → eqb x s ≡ b → pairs_in slots (without s xs) ≡ pairs_in slots xs
        → pairs_in slots (cond (not b) (x ∷ without s xs) (without s xs)) ≡ with_pair (slot_at slots x) (pairs_in slots xs)
    by true is h = elim (eqb_tells x s) [
      | inl w ↦ h ∙ sym (ap (λ (o : Option Pair). with_pair o (pairs_in slots xs)) (ap (slot_at slots) w.1 ∙ empty))
      | inr w ↦ absurd (false≢true (sym w.0 ∙ is))
    ]
    by false is h = ap (with_pair (slot_at slots x)) h

-- one of them passes no test that none passes
pub none_passes_at : (test : Pair → Bool) (slots : List (Option Pair)) (os : List ℕ) (s : ℕ) (p : Pair) → is_in s os ≡ true → slot_at slots s ≡ Some p → list_any test (pairs_in slots os) ≡ false → test p ≡ false
none_passes_at test slots [] s p there at none = absurd (false≢true there)
none_passes_at test slots (x ∷ xs) s p there at none =
    elim (eqb_tells x s) [
      | inl w ↦ (or_false (test p) (list_any test (pairs_in slots xs)) (subst (λ (o : Option Pair). list_any test (with_pair o (pairs_in slots xs)) ≡ false) (ap (slot_at slots) w.1 ∙ at) none)).0
      | inr w ↦ none_passes_at test slots xs s p (in_rest s x xs (differ x s w.0) there) at (rest (slot_at slots x) none)
    ]
  where
    rest : (o : Option Pair) → list_any test (with_pair o (pairs_in slots xs)) ≡ false → list_any test (pairs_in slots xs) ≡ false
    rest None e = e
    rest (Some q) e = (or_false (test q) (list_any test (pairs_in slots xs)) e).1

-- one that is taken has the only pair of its key

other_key : (slots : List (Option Pair)) (os : List ℕ) (s : ℕ) (p q : Pair) → is_in s os ≡ true → slot_at slots s ≡ Some p → KeysApart (q ∷ pairs_in slots os) → same_key q.key p.key ≡ false
other_key slots os s p q there at apart = other_way p.key q.key (none_passes_at (is_of q.key) slots os s p there at apart.0)

pub pairs_without : (slots : List (Option Pair)) (os : List ℕ) (s : ℕ) (p : Pair) → is_in s os ≡ true → Apart os → slot_at slots s ≡ Some p → KeysApart (pairs_in slots os) → pairs_in slots (without s os) ≡ others p.key (pairs_in slots os)
pairs_without slots [] s p there apart at keys = absurd (false≢true there)
pairs_without slots (x ∷ xs) s p there apart at keys =
    elim (eqb_tells x s) [
      | inl w ↦
          let here : slot_at slots x ≡ Some p = ap (slot_at slots) w.1 ∙ at in
          let whole : pairs_in slots (x ∷ xs) ≡ p ∷ pairs_in slots xs = ap (λ (o : Option Pair). with_pair o (pairs_in slots xs)) here in
          let P : List Pair → Type 0 = λ ps. KeysApart ps in
          let keys_of = subst P whole keys in
          let left : others p.key (p ∷ pairs_in slots xs) ≡ pairs_in slots xs = rw (same_itself p.key) (none_dropped (is_of p.key) (pairs_in slots xs) keys_of.0) in
          ap (pairs_in slots) (without_first s x xs w.1 apart.0) ∙ sym (ap (others p.key) whole ∙ left)
      | inr w ↦
          let other : x ≢ s = differ x s w.0 in
          let rest : is_in s xs ≡ true = in_rest s x xs other there in
          ap (pairs_in slots) (without_other s x xs other) ∙ by (slot_at slots x) rest keys (pairs_without slots xs s p rest apart.1 at)
    ]
  where
    by : (o : Option Pair) → is_in s xs ≡ true → KeysApart (with_pair o (pairs_in slots xs)) → (KeysApart (pairs_in slots xs) → pairs_in slots (without s xs) ≡ others p.key (pairs_in slots xs))
        → with_pair o (pairs_in slots (without s xs)) ≡ others p.key (with_pair o (pairs_in slots xs))
    by None rest keys h = h keys
    by (Some q) rest keys h =
        let far = other_key slots xs s p q rest at keys in
        rw far (ap (λ (ps : List Pair). q ∷ ps) (h keys.1))

pub found_at : (slots : List (Option Pair)) (os : List ℕ) (s : ℕ) (p : Pair) → is_in s os ≡ true → slot_at slots s ≡ Some p → KeysApart (pairs_in slots os) → find (is_of p.key) (pairs_in slots os) ≡ Some p
found_at slots [] s p there at keys = absurd (false≢true there)
found_at slots (x ∷ xs) s p there at keys =
    elim (eqb_tells x s) [
      | inl w ↦
          let here : slot_at slots x ≡ Some p = ap (slot_at slots) w.1 ∙ at in
          ap (λ (o : Option Pair). find (is_of p.key) (with_pair o (pairs_in slots xs))) here ∙ rw (same_itself p.key) refl
      | inr w ↦
          let rest = in_rest s x xs (differ x s w.0) there in
          by (slot_at slots x) rest keys (found_at slots xs s p rest at)
    ]
  where
    by : (o : Option Pair) → is_in s xs ≡ true → KeysApart (with_pair o (pairs_in slots xs)) → (KeysApart (pairs_in slots xs) → find (is_of p.key) (pairs_in slots xs) ≡ Some p) → find (is_of p.key) (with_pair o (pairs_in slots xs)) ≡ Some p
    by None rest keys h = h keys
    by (Some q) rest keys h =
        let far = other_key slots xs s p q rest at keys in
        rw far (h keys.1)

-- What no slot holds, none of them is.
pub none_held : (key : CacheKey) (slots : List (Option Pair)) (os : List ℕ) → ((s : ℕ) → holds key (slot_at slots s) ≡ false) → list_any (is_of key) (pairs_in slots os) ≡ false
none_held key slots [] none = refl
none_held key slots (x ∷ xs) none = by (slot_at slots x) (none x) (none_held key slots xs none)
  where
    by : (o : Option Pair) → holds key o ≡ false → list_any (is_of key) (pairs_in slots xs) ≡ false → list_any (is_of key) (with_pair o (pairs_in slots xs)) ≡ false
    by None un h = h
    by (Some p) un h = rw un h

-- how many there are

pub pairs_few : (slots : List (Option Pair)) (os : List ℕ) → length (pairs_in slots os) ≤ length os
pairs_few slots [] = omega arith
pairs_few slots (x ∷ xs) = by (slot_at slots x) (pairs_few slots xs)
  where
    by : (o : Option Pair) → length (pairs_in slots xs) ≤ length xs → length (with_pair o (pairs_in slots xs)) ≤ suc (length xs)
    by None h = omega (arith, h)
    by (Some p) h = omega (arith, h)

none_in : (slots : List (Option Pair)) (os : List ℕ) → AreEmpty slots os → pairs_in slots os ≡ []
none_in slots [] e = refl
none_in slots (x ∷ xs) e = ap (λ (o : Option Pair). with_pair o (pairs_in slots xs)) e.0 ∙ none_in slots xs e.1

empty_last : (slots : List (Option Pair)) (a : ℕ) (os : List ℕ) → slot_at slots a ≡ None → AreEmpty slots os → slot_at slots (last_of a os) ≡ None
empty_last slots a [] at e = at
empty_last slots a (x ∷ xs) at e = empty_last slots x xs e.0 e.1

-- Where some slot is empty, the last one is.
pub last_empty : (slots : List (Option Pair)) (a : ℕ) (os : List ℕ) → ArePacked slots os → length (pairs_in slots os) < length os → slot_at slots (last_of a os) ≡ None
last_empty slots a [] packed few = absurd (omega (arith, few))
last_empty slots a (x ∷ xs) packed few = by (slot_at slots x) refl packed.0 few (last_empty slots x xs packed.1)
  where
    by : (o : Option Pair) → slot_at slots x ≡ o → (o ≡ None → AreEmpty slots xs) → length (with_pair o (pairs_in slots xs)) < suc (length xs)
        → (length (pairs_in slots xs) < length xs → slot_at slots (last_of x xs) ≡ None) → slot_at slots (last_of x xs) ≡ None
    by None at empty few h = empty_last slots x xs at (empty refl)
    by (Some p) at empty few h = h (omega (arith, few))

-- Where none is, the last one has the last pair.
pub record EndsTaken (slots : List (Option Pair)) (last : ℕ) (ps : List Pair) : Type 0 where
  pub pair : Pair
  pub front : List Pair
  pub at : slot_at slots last ≡ Some pair
  pub whole : ps ≡ front ++ pair ∷ []

pub last_taken : (slots : List (Option Pair)) (a : ℕ) (os : List ℕ) → 0 < length os → length (pairs_in slots os) ≡ length os → EndsTaken slots (last_of a os) (pairs_in slots os)
last_taken slots a [] some all = absurd (omega (arith, some))
last_taken slots a (x ∷ []) some all = one (slot_at slots x) refl all
  where
    one : (o : Option Pair) → slot_at slots x ≡ o → length (with_pair o []) ≡ 1 → EndsTaken slots x (with_pair o [])
    one None at all = absurd (omega (arith, all))
    one (Some p) at all = record { pair = p; front = []; at = at; whole = refl }
last_taken slots a (x ∷ y ∷ ys) some all = by (slot_at slots x) all (last_taken slots x (y ∷ ys) (omega arith))
  where
    by : (o : Option Pair) → length (with_pair o (pairs_in slots (y ∷ ys))) ≡ suc (suc (length ys)) → (length (pairs_in slots (y ∷ ys)) ≡ suc (length ys) → EndsTaken slots (last_of y ys) (pairs_in slots (y ∷ ys)))
        → EndsTaken slots (last_of y ys) (with_pair o (pairs_in slots (y ∷ ys)))
    by None all h = absurd (let few = pairs_few slots (y ∷ ys) in omega (arith, all, few))
    by (Some p) all h =
        let e = h (omega (arith, all)) in
        record { pair = e.pair; front = p ∷ e.front; at = e.at; whole = ap (λ (ps : List Pair). p ∷ ps) e.whole }

-- the empty slots stay at the end

empty_without : (slots : List (Option Pair)) (s : ℕ) (os : List ℕ) → AreEmpty slots os → AreEmpty slots (without s os)
empty_without slots s [] e = tt
empty_without slots s (x ∷ xs) e = by (eqb x s) (empty_without slots s xs e.1)
  where
    by : (b : Bool) → AreEmpty slots (without s xs) → AreEmpty slots (cond (not b) (x ∷ without s xs) (without s xs))
    by true h = h
    by false h = (e.0, h)

packed_without : (slots : List (Option Pair)) (s : ℕ) (os : List ℕ) → ArePacked slots os → ArePacked slots (without s os)
packed_without slots s [] k = tt
packed_without slots s (x ∷ xs) k = by (eqb x s) (packed_without slots s xs k.1)
  where
    by : (b : Bool) → ArePacked slots (without s xs) → ArePacked slots (cond (not b) (x ∷ without s xs) (without s xs))
    by true h = h
    by false h = ((λ empty. empty_without slots s xs (k.0 empty)), h)

packed_kept : (slots after : List (Option Pair)) (os : List ℕ) → AllByRecursion (λ t. slot_at after t ≡ slot_at slots t) os → ArePacked slots os → ArePacked after os
packed_kept slots after [] same k = tt
packed_kept slots after (x ∷ xs) same k = ((λ empty. empties xs same.1 (k.0 (sym same.0 ∙ empty))), packed_kept slots after xs same.1 k.1)
  where
    empties : (ys : List ℕ) → AllByRecursion (λ t. slot_at after t ≡ slot_at slots t) ys → AreEmpty slots ys → AreEmpty after ys
    empties [] same e = tt
    empties (y ∷ ys) same e = (same.0 ∙ e.0, empties ys same.1 e.1)

packed_push : (slots : List (Option Pair)) (os : List ℕ) (s : ℕ) → slot_at slots s ≡ None → ArePacked slots os → ArePacked slots (os ++ s ∷ [])
packed_push slots [] s empty k = ((λ e. tt), tt)
packed_push slots (x ∷ xs) s empty k = ((λ e. more xs (k.0 e)), packed_push slots xs s empty k.1)
  where
    more : (ys : List ℕ) → AreEmpty slots ys → AreEmpty slots (ys ++ s ∷ [])
    more [] e = (empty, tt)
    more (y ∷ ys) e = (e.0, more ys e.1)

stays_all : (slots after : List (Option Pair)) (s : ℕ) (o : Option Pair) (os : List ℕ) → Lacks s os → Puts slots after s o → AllByRecursion (λ t. slot_at after t ≡ slot_at slots t) os
stays_all slots after s o [] l puts = tt
stays_all slots after s o (x ∷ xs) l puts = (puts_other slots after s o x l.0 puts, stays_all slots after s o xs l.1 puts)

same_all : (slots after : List (Option Pair)) (os : List ℕ) → ((t : ℕ) → slot_at after t ≡ slot_at slots t) → AllByRecursion (λ t. slot_at after t ≡ slot_at slots t) os
same_all slots after [] same = tt
same_all slots after (x ∷ xs) same = (same x, same_all slots after xs same)

pub packed_first : (slots after : List (Option Pair)) (s : ℕ) (p : Pair) (os : List ℕ) → slot_at after s ≡ Some p → AllByRecursion (λ t. slot_at after t ≡ slot_at slots t) (without s os) → ArePacked slots os → ArePacked after (s ∷ without s os)
packed_first slots after s p os at same k = ((λ e. absurd (some_none (sym at ∙ e))), packed_kept slots after (without s os) same (packed_without slots s os k))
  where
    some_none : Some p ≡ None → ⊥
    some_none e = cc

pub packed_used : (slots : List (Option Pair)) (s : ℕ) (p : Pair) (os : List ℕ) → slot_at slots s ≡ Some p → ArePacked slots os → ArePacked slots (s ∷ without s os)
packed_used slots s p os at k = packed_first slots slots s p os at (same_all slots slots (without s os) (λ t. refl)) k

pub packed_filled : (slots after : List (Option Pair)) (s : ℕ) (p : Pair) (os : List ℕ) → Puts slots after s (Some p) → ArePacked slots os → ArePacked after (s ∷ without s os)
packed_filled slots after s p os puts k = packed_first slots after s p os (puts_here slots after s (Some p) puts) (stays_all slots after s (Some p) (without s os) (lacks_without s os) puts) k

pub packed_emptied : (slots after : List (Option Pair)) (s : ℕ) (os : List ℕ) → Puts slots after s None → ArePacked slots os → ArePacked after (without s os ++ s ∷ [])
packed_emptied slots after s os puts k =
    packed_push after (without s os) s (puts_here slots after s None puts)
    (packed_kept slots after (without s os) (stays_all slots after s None (without s os) (lacks_without s os) puts) (packed_without slots s os k))

pub packed_opened : (slots after : List (Option Pair)) (s : ℕ) (os : List ℕ) → ((t : ℕ) → slot_at after t ≡ slot_at slots t) → slot_at after s ≡ None → ArePacked slots os → ArePacked after (os ++ s ∷ [])
packed_opened slots after s os same empty k = packed_push after os s empty (packed_kept slots after os (same_all slots after os same) k)

-- What was read in a slot's place is what stands in it.
pub slot_read : (slots : List (Option Pair)) (s : ℕ) (y : Option Pair) → 0 < s → s ≤ length slots → y ≡ get_or slots (s - 1) y → y ≡ slot_at slots s
slot_read slots zero y some le e = absurd (omega (arith, some))
slot_read slots (suc i) y some le e =
    let place : suc i - 1 ≡ i = omega arith in
    read slots i (omega (arith, le)) (e ∙ ap (λ (k : ℕ). get_or slots k y) place)
  where
    read : (xs : List (Option Pair)) (i : ℕ) → i < length xs → y ≡ get_or xs i y → y ≡ get_or xs i None
    read [] i lt e = absurd (omega (arith, lt))
    read (x ∷ xs) zero lt e = e
    read (x ∷ xs) (suc i) lt e = read xs i (omega (arith, lt)) e
