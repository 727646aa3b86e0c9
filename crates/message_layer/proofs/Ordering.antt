-- Messages in the order of time: those that are remembered no more stand in front.
use Rattle.std.proofs.Common.{◌≡◌, ℕ, suc, ◌-◌, ◌≤◌, ◌<◌, List, [], ◌∷◌, ◌++◌, length, drop, get_or, filter, count_by, Bool, true, false, not, cond, nat_lt, nat_le, slice_get, None, Some, ◌⊎◌, inl, inr, refl, sym, ◌∙◌, ap, arith}
use Rattle.std.specs.List.{AllByRecursion}
use Rattle.std.proofs.lemmas.Bool.{lt-ltb, le-ltb, cases_lt}
use Rattle.std.proofs.lemmas.List.Sums.{length-filter, count_by-le-length}
use Rattle.std.proofs.lemmas.Bool.Decides.{nat_tests}
use Rattle.message_layer.specs.Kept.{is_since}
use Rattle.message_layer.specs.Remembering.{is_fresh, moment_heard, AreInOrder, begins_old}
use Rattle.message_layer.proofs.KeptLaws.{filter-alike}
use Rattle.message_layer.specs.declared.state.Heard.{Heard}
use Rattle.message_layer.proofs.Sound.{either}
use borrow.Author.Tests.{ltb-true}

abbrev pub AreUpTo : ℕ → List Heard → Type 0
AreUpTo n ms = AllByRecursion (λ (h : Heard). h.moment ≤ n) ms

all-push : (P : Heard → Type 0) (ms : List Heard) (h : Heard) → AllByRecursion P ms → P h → AllByRecursion P (ms ++ h ∷ [])
all-push P [] h all p = (p, tt)
all-push P (m ∷ ms) h all p = (all.0, all-push P ms h all.1 p)

all-filter : (P : Heard → Type 0) (p : Heard → Bool) (ms : List Heard) → AllByRecursion P ms → AllByRecursion P (filter p ms)
all-filter P p [] all = tt
all-filter P p (m ∷ ms) all = either (λ (ys : List Heard). AllByRecursion P ys) (p m) _ _ (λ e. (all.0, all-filter P p ms all.1)) (λ e. all-filter P p ms all.1)

below : (n m : ℕ) (ms : List Heard) → n ≤ m → AreUpTo n ms → AreUpTo m ms
below n m [] up all = tt
below n m (h ∷ ms) up all = (omega (arith, up, all.0), below n m ms up all.1)

pub latest-push : (n : ℕ) (ms : List Heard) (h : Heard) → n ≤ h.moment → AreUpTo n ms → AreUpTo h.moment (ms ++ h ∷ [])
latest-push n ms h up all = all-push (λ (m : Heard). m.moment ≤ h.moment) ms h (below n h.moment ms up all) (omega arith)

pub latest-filter : (n : ℕ) (p : Heard → Bool) (ms : List Heard) → AreUpTo n ms → AreUpTo n (filter p ms)
latest-filter n p ms all = all-filter (λ (h : Heard). h.moment ≤ n) p ms all

order-push : (ms : List Heard) (h : Heard) → AreInOrder ms → AreUpTo h.moment ms → AreInOrder (ms ++ h ∷ [])
order-push [] h r all = (tt, tt)
order-push (m ∷ ms) h r all = (all-push (λ (later : Heard). m.moment ≤ later.moment) ms h r.0 all.0, order-push ms h r.1 all.1)

pub in-order-push : (n : ℕ) (ms : List Heard) (h : Heard) → n ≤ h.moment → AreInOrder ms → AreUpTo n ms → AreInOrder (ms ++ h ∷ [])
in-order-push n ms h up r all = order-push ms h r (below n h.moment ms up all)

pub in-order-filter : (p : Heard → Bool) (ms : List Heard) → AreInOrder ms → AreInOrder (filter p ms)
in-order-filter p [] r = tt
in-order-filter p (m ∷ ms) r = either (λ (ys : List Heard). AreInOrder ys) (p m) _ _ (λ e. (all-filter (λ (later : Heard). m.moment ≤ later.moment) p ms r.0, in-order-filter p ms r.1)) (λ e. in-order-filter p ms r.1)

taken : (p : Heard → Bool) (m : Heard) (ms : List Heard) → p m ≡ true → filter p (m ∷ ms) ≡ m ∷ filter p ms
taken p m ms e = ap (λ (b : Bool). cond b (m ∷ filter p ms) (filter p ms)) e

left : (p : Heard → Bool) (m : Heard) (ms : List Heard) → p m ≡ false → filter p (m ∷ ms) ≡ filter p ms
left p m ms e = ap (λ (b : Bool). cond b (m ∷ filter p ms) (filter p ms)) e

-- what was heard later is fresh as long
all-fresh : (t : ℕ) (m : Heard) (ms : List Heard) → is_fresh t m ≡ true → AllByRecursion (λ (later : Heard). m.moment ≤ later.moment) ms → filter (is_fresh t) ms ≡ ms
all-fresh t m [] e h = refl
all-fresh t m (y ∷ ys) e h =
    let near : t - m.moment < 247000 = ltb-true (t - m.moment) 247000 e in
    let fresh : is_fresh t y ≡ true = lt-ltb (t - y.moment) 247000 (omega (arith, h.0, near)) in
    taken (is_fresh t) y ys fresh ∙ ap (λ (zs : List Heard). y ∷ zs) (all-fresh t m ys e h.1)

not-not : (b : Bool) → not b ≡ false → b ≡ true
not-not true e = refl
not-not false e = absurd cc

not-true : (b : Bool) → not b ≡ true → b ≡ false
not-true false e = refl
not-true true e = absurd cc

pub filter-kept : (t : ℕ) (ms : List Heard) → AreInOrder ms → begins_old t ms ≡ false → filter (is_fresh t) ms ≡ ms
filter-kept t [] r e = refl
filter-kept t (m ∷ ms) r e =
    let fresh : is_fresh t m ≡ true = not-not (is_fresh t m) e in
    taken (is_fresh t) m ms fresh ∙ ap (λ (ys : List Heard). m ∷ ys) (all-fresh t m ms fresh r.0)

-- the oldest one goes
pub old-some : (t : ℕ) (ms : List Heard) → begins_old t ms ≡ true → 0 < length ms
old-some t [] e = absurd cc
old-some t (m ∷ ms) e = omega arith

pub in-order-rest : (ms : List Heard) → AreInOrder ms → AreInOrder (drop 1 ms)
in-order-rest [] r = tt
in-order-rest (m ∷ ms) r = r.1

pub filter-rest : (t : ℕ) (ms : List Heard) → begins_old t ms ≡ true → filter (is_fresh t) (drop 1 ms) ≡ filter (is_fresh t) ms
filter-rest t [] e = refl
filter-rest t (m ∷ ms) e = sym (left (is_fresh t) m ms (not-true (is_fresh t m) e))

-- so many are fresh exactly if the first of so many last ones is
pub many-fresh : (t n : ℕ) (ms : List Heard) (d : Heard) → AreInOrder ms → 0 < n → n ≤ length ms → not (is_fresh t (get_or ms (length ms - n) d)) ≡ nat_lt (count_by (is_fresh t) ms) n
many-fresh t n [] d r some many = absurd (omega (arith, some, many))
many-fresh t n (m ∷ ms) d r some many = by (λ enough. many-fresh t n ms d r.1 some enough) (is_fresh t m) refl
  where
    all : is_fresh t m ≡ true → count_by (is_fresh t) (m ∷ ms) ≡ suc (length ms)
    all e = sym (length-filter (is_fresh t) (m ∷ ms)) ∙ ap (λ (ys : List Heard). length ys) (taken (is_fresh t) m ms e ∙ ap (λ (ys : List Heard). m ∷ ys) (all-fresh t m ms e r.0))

    rest : is_fresh t m ≡ false → count_by (is_fresh t) (m ∷ ms) ≡ count_by (is_fresh t) ms
    rest e = sym (length-filter (is_fresh t) (m ∷ ms)) ∙ ap (λ (ys : List Heard). length ys) (left (is_fresh t) m ms e) ∙ length-filter (is_fresh t) ms

    counted : is_fresh t m ≡ true → count_by (is_fresh t) ms ≡ length ms
    counted e = sym (length-filter (is_fresh t) ms) ∙ ap (λ (ys : List Heard). length ys) (all-fresh t m ms e r.0)

    is-not : (b : Bool) → is_fresh t m ≡ b → not (is_fresh t m) ≡ not b
    is-not b e = ap not e

    by : ((n ≤ length ms) → not (is_fresh t (get_or ms (length ms - n) d)) ≡ nat_lt (count_by (is_fresh t) ms) n) → (b : Bool) → is_fresh t m ≡ b → not (is_fresh t (get_or (m ∷ ms) (suc (length ms) - n) d)) ≡ nat_lt (count_by (is_fresh t) (m ∷ ms)) n
    by later true e = at (cases_lt (length ms) n)
      where
        full : nat_lt (count_by (is_fresh t) (m ∷ ms)) n ≡ false
        full = le-ltb (count_by (is_fresh t) (m ∷ ms)) n (omega (arith, many, all e))

        at : (length ms < n) ⊎ (n ≤ length ms) → not (is_fresh t (get_or (m ∷ ms) (suc (length ms) - n) d)) ≡ nat_lt (count_by (is_fresh t) (m ∷ ms)) n
        at (inl few) = let z : suc (length ms) - n ≡ 0 = omega (arith, few) in rw z (is-not true e ∙ sym full)
        at (inr enough) =
            let z : suc (length ms) - n ≡ suc (length ms - n) = omega (arith, enough) in
            let few : nat_lt (count_by (is_fresh t) ms) n ≡ false = le-ltb (count_by (is_fresh t) ms) n (omega (arith, enough, counted e)) in
            rw z (later enough ∙ few ∙ sym full)
    by later false e = at (cases_lt (length ms) n)
      where
        at : (length ms < n) ⊎ (n ≤ length ms) → not (is_fresh t (get_or (m ∷ ms) (suc (length ms) - n) d)) ≡ nat_lt (count_by (is_fresh t) (m ∷ ms)) n
        at (inl few) =
            let z : suc (length ms) - n ≡ 0 = omega (arith, few) in
            let free : nat_lt (count_by (is_fresh t) (m ∷ ms)) n ≡ true = lt-ltb (count_by (is_fresh t) (m ∷ ms)) n (omega (arith, few, rest e, count_by-le-length (is_fresh t) ms)) in
            rw z (is-not false e ∙ sym free)
        at (inr enough) =
            let z : suc (length ms) - n ≡ suc (length ms - n) = omega (arith, enough) in
            rw z (later enough ∙ ap (λ (k : ℕ). nat_lt k n) (sym (rest e)))

-- the first moment at which one was heard that is fresh
fresh-test : (t : ℕ) (h : Heard) → is_fresh t h ≡ nat_le (t - 246999) h.moment
fresh-test t h = grind (arith, nat_tests)

pub fresh-since : (t : ℕ) (ms : List Heard) → filter (is_fresh t) ms ≡ filter (is_since moment_heard (t - 246999)) ms
fresh-since t ms = filter-alike (is_fresh t) (is_since moment_heard (t - 246999)) (fresh-test t) ms

pub count-fresh : (t : ℕ) (ms : List Heard) → count_by (is_fresh t) ms ≡ count_by (is_since moment_heard (t - 246999)) ms
count-fresh t ms =
    sym (length-filter (is_fresh t) ms) ∙ ap (λ (hs : List Heard). length hs) (fresh-since t ms)
    ∙ length-filter (is_since moment_heard (t - 246999)) ms

-- the first one, as it is read
pub begins-none : (t : ℕ) (ms : List Heard) → slice_get ms 0 ≡ None → begins_old t ms ≡ false
begins-none t [] e = refl
begins-none t (m ∷ ms) e = absurd cc

pub begins-first : (t : ℕ) (h : Heard) (ms : List Heard) → slice_get ms 0 ≡ Some h → begins_old t ms ≡ not (is_fresh t h)
begins-first t h [] e = absurd cc
begins-first t h (m ∷ ms) e = let same : m ≡ h = cc in ap (λ (x : Heard). not (is_fresh t x)) same

-- the first one goes, which is fresh no more
pub record IsShorter (t : ℕ) (ms : List Heard) : Type 0 where
  pub some : 0 < length ms
  pub in_order : AreInOrder (drop 1 ms)
  pub same : filter (is_fresh t) (drop 1 ms) ≡ filter (is_fresh t) ms
  pub shorter : length (drop 1 ms) < length ms

pub is-shorter : (t : ℕ) (ms : List Heard) → AreInOrder ms → begins_old t ms ≡ true → IsShorter t ms
is-shorter t [] r e = absurd cc
is-shorter t (m ∷ ms) r e = record {
  some = omega arith;
  in_order = r.1;
  same = sym (left (is_fresh t) m ms (not-true (is_fresh t m) e));
  shorter = omega arith;
}
