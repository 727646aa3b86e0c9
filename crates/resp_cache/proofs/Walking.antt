-- The pairs of a table as a list, and a table that is filled with a list.
use Rattle.std.proofs.Common.{◌≡◌, ℕ, zero, suc, ◌+◌, ◌-◌, ◌<◌, ◌≤◌, false, List, [], ◌∷◌, ◌++◌, length, Option, Some, None, get_or, take, drop, refl, sym, ap, subst, ◌∙◌, arith, append_assoc}
use Rattle.std.specs.List.{list_any}
use Rattle.std.specs.Prelude.{IfOk, Result, Ok, Err}
use Rattle.resp_cache.specs.Names.{named_as}
use Rattle.resp_cache.specs.Rings.{walk}
use Rattle.resp_cache.specs.Slots.{pairs_in, slot_at, with_pair}
use Rattle.resp_cache.specs.Stores.{KeysApart, is_of}
use Rattle.resp_cache.specs.Tables.{AreStored}
use Rattle.resp_cache.specs.declared.names.Named.{Named}
use Rattle.resp_cache.specs.declared.pair.Pair.{Pair}
use Rattle.limits.specs.declared.TheConstants.{MAX_STORED}
use Rattle.resp_cache.proofs.Lists.{take_roomy}
use Rattle.resp_cache.proofs.Orders.{order_none}

-- one number more of the ring
pub walk_step : (end counter : ℕ) (ls : List ℕ) (a : ℕ) → counter < end → walk (end - counter) ls a ≡ get_or ls a 0 ∷ walk (end - (counter + 1)) ls (get_or ls a 0)
walk_step end counter ls a lt =
    let more : end - counter ≡ suc (end - (counter + 1)) = omega (arith, lt) in
    ap (λ (n : ℕ). walk n ls a) more

pub walk_end : (end counter : ℕ) (ls : List ℕ) (a : ℕ) → end ≤ counter → walk (end - counter) ls a ≡ []
walk_end end counter ls a le =
    let none : end - counter ≡ 0 = omega (arith, le) in
    ap (λ (n : ℕ). walk n ls a) none

-- one slot more
pub pairs_step : (slots : List (Option Pair)) (order : List ℕ) (i j : ℕ) → j ≡ i + 1 → i < length order
    → pairs_in slots (drop i order) ≡ with_pair (slot_at slots (get_or order i 0)) (pairs_in slots (drop j order))
pairs_step slots [] i j next lt = absurd (omega (arith, lt))
pairs_step slots (s ∷ os) zero j next lt = ap (λ (n : ℕ). with_pair (slot_at slots s) (pairs_in slots (drop n (s ∷ os)))) (sym next)
pairs_step slots (s ∷ os) (suc i) zero next lt = absurd (omega (arith, next))
pairs_step slots (s ∷ os) (suc i) (suc j) next lt = pairs_step slots os i j (omega (arith, next)) (omega (arith, lt))

pub step_some : (ps qs : List Pair) (p : Pair) (o : Option Pair) (rest all : List Pair) → qs ≡ ps ++ p ∷ [] → o ≡ Some p → ps ++ with_pair o rest ≡ all → qs ++ rest ≡ all
step_some ps qs p o rest all more is e =
    ap (λ (xs : List Pair). xs ++ rest) more
    ∙ (append_assoc ps (p ∷ []) rest ∙ (ap (λ (v : Option Pair). ps ++ with_pair v rest) (sym is) ∙ e))

pub step_none : (ps qs : List Pair) (o : Option Pair) (rest all : List Pair) → qs ≡ ps → o ≡ None → ps ++ with_pair o rest ≡ all → qs ++ rest ≡ all
step_none ps qs o rest all same is e =
    ap (λ (xs : List Pair). xs ++ rest) same ∙ (ap (λ (v : Option Pair). ps ++ with_pair v rest) (sym is) ∙ e)

pub dropped_all : {X : Type 0} (xs : List X) (i : ℕ) → length xs ≤ i → drop i xs ≡ []
dropped_all [] zero le = refl
dropped_all [] (suc i) le = refl
dropped_all (x ∷ xs) zero le = absurd (omega (arith, le))
dropped_all (x ∷ xs) (suc i) le = dropped_all xs i (omega (arith, le))

-- a table with nothing in it
empty-slot : (s : ℕ) → named_as s (slot_at [] s) ≡ []
empty-slot zero = refl
empty-slot (suc i) = refl

pub none_stored : AreStored [] [] []
none_stored = record { few = omega arith; sized = refl; order = order_none; packed = tt; named = record { order = tt; same = λ s. sym (empty-slot s) }; counted = refl; apart = tt }

-- Of keys that are apart none stands behind the pair with it.
pub apart_behind : (front : List Pair) (p : Pair) (back : List Pair) → KeysApart (front ++ p ∷ back) → list_any (is_of p.key) back ≡ false
apart_behind [] p back h = h.0
apart_behind (q ∷ qs) p back h = apart_behind qs p back h.1

pub length_behind : (front : List Pair) (p : Pair) (back : List Pair) → length (p ∷ back) ≤ length (front ++ p ∷ back)
length_behind [] p back = omega arith
length_behind (q ∷ qs) p back = let le = length_behind qs p back in omega (arith, le)

pub stored_none : (slots : List (Option Pair)) (os : List ℕ) (ns : List Named) → slots ≡ [] → os ≡ [] → ns ≡ [] → AreStored slots os ns × (pairs_in slots os ≡ [])
stored_none slots os ns a b d = rw (a, b, d) (none_stored, refl)

-- The last of these pairs is put before those that are put already.

pub left_behind : (all old left : List Pair) (p : Pair) (put : List Pair) → KeysApart all → old ≡ left ++ p ∷ [] → old ++ put ≡ all → list_any (is_of p.key) put ≡ false
left_behind all old left p put apart last is =
    apart_behind left p put (subst KeysApart (sym (sym (append_assoc left (p ∷ []) put) ∙ (ap (λ (xs : List Pair). xs ++ put) (sym last) ∙ is))) apart)

pub grown : (all old left : List Pair) (p : Pair) (put new : List Pair) → length all ≤ MAX_STORED → old ≡ left ++ p ∷ [] → old ++ put ≡ all → new ≡ take MAX_STORED (p ∷ put) → left ++ new ≡ all
grown all old left p put new few last is made =
    let same : left ++ (p ∷ put) ≡ all = sym (append_assoc left (p ∷ []) put) ∙ (ap (λ (xs : List Pair). xs ++ put) (sym last) ∙ is) in
    let le = length_behind left p put in
    let len : length (left ++ (p ∷ put)) ≡ length all = ap length same in
    let short : length (p ∷ put) ≤ MAX_STORED = omega (arith, le, len, few) in
    ap (λ (xs : List Pair). left ++ xs) (made ∙ (take_roomy MAX_STORED (p ∷ put) short).0) ∙ same

pub nothing : {X : Type 0} (xs : List X) → length xs ≡ 0 → xs ≡ []
nothing [] e = refl
nothing (x ∷ xs) e = absurd (omega (arith, e))

pub on_ok : {A E : Type 0} {P Q : A → Type 0} (r : Result A E) → ((a : A) → P a → Q a) → IfOk r P → IfOk r Q
on_ok (Ok a) f h = f a h
on_ok (Err e) f h = tt
