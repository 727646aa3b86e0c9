-- Those of one number together: where they stand, and that they stay together.
use Rattle.std.proofs.Common.{◌≡◌, ◌≢◌, ℕ, zero, suc, ◌+◌, ◌-◌, ◌<◌, ◌≤◌, Bool, true, false, not, cond, List, [], ◌∷◌, ◌++◌, length, take, drop, get_or, Option, Some, None, inl, inr, refl, sym, ap, subst, ◌∙◌, ltb-true, ltb-false, arith}
use Rattle.std.specs.Prelude.{filter, insert}
use Rattle.std.specs.List.{AllByRecursion}
use Rattle.std.specs.List.Sorted.{IsNonDecreasingBy}
use Rattle.std.proofs.lemmas.Bool.{cases_Bool, eqb-true, false≢true}
use Rattle.std.proofs.lemmas.Bool.Decides.{eqb_tells}
use Rattle.std.proofs.lemmas.List.Elements.{filter-append}
use Rattle.history_laws.proofs.CallerLemmas.{all-filter, all-more}
use Rattle.exchange_model.specs.declared.kept.Reader.{Reader}
use Rattle.exchange_table.specs.Places.{IsNowhere, IsOnlyAt}
use Rattle.exchange_table.specs.Groups.{AreGrouped, Ascend, IsFirstFrom, is_by}
use Rattle.exchange_table.specs.Readers.{ask_in, has_ask, is_on}
use Rattle.exchange_table.proofs.Searching.{same-as, some-is, none-some}
use Rattle.exchange_table.proofs.Standing.{Splits, Tells, all-at}

pub ask-tells : (k : ℕ) → Tells ask_in k (has_ask k)
ask-tells k r e = eqb-true r.ask k e

-- a search among numbers of which none is below one before it

pub ascends : {X : Type 0} (n : X → ℕ) (xs : List X) → Ascend n xs → IsNonDecreasingBy n xs
ascends n [] order i j d le lt = absurd (omega (arith, lt))
ascends n (x ∷ xs) order zero zero d le lt = omega arith
ascends n (x ∷ xs) order (suc i) zero d le lt = absurd (omega (arith, le))
ascends n (x ∷ xs) order zero (suc j) d le lt = all-at (λ y. n x ≤ n y) xs j d order.0 (omega (arith, lt))
ascends n (x ∷ xs) order (suc i) (suc j) d le lt = ascends n xs order.1 i j d (omega (arith, le)) (omega (arith, lt))

pub all-front : {X : Type 0} (P : X → Type 0) (xs : List X) (i : ℕ) → ((k : ℕ) (d : X) → k < i → k < length xs → P (get_or xs k d)) → AllByRecursion P (take i xs)
all-front P [] zero f = tt
all-front P [] (suc i) f = tt
all-front P (x ∷ xs) zero f = tt
all-front P (x ∷ xs) (suc i) f = (f 0 x (omega arith) (omega arith), all-front P xs i (λ k d less lt. f (suc k) d (omega (arith, less)) (omega (arith, lt))))

pub all-back : {X : Type 0} (P : X → Type 0) (xs : List X) (i : ℕ) → ((k : ℕ) (d : X) → i ≤ k → k < length xs → P (get_or xs k d)) → AllByRecursion P (drop i xs)
all-back P [] zero f = tt
all-back P [] (suc i) f = tt
all-back P (x ∷ xs) zero f = (f 0 x (omega arith) (omega arith), all-back P xs zero (λ k d le lt. f (suc k) d (omega arith) (omega (arith, lt))))
all-back P (x ∷ xs) (suc i) f = all-back P xs i (λ k d le lt. f (suc k) d (omega (arith, le)) (omega (arith, lt)))

pub so-many : {X : Type 0} (m n : ℕ) (xs : List X) → m ≡ n → take m xs ≡ take n xs
so-many m n xs e = ap (λ (k : ℕ). take k xs) e

pub all-insert : {X : Type 0} (P : X → Type 0) (xs : List X) (i : ℕ) (y : X) → AllByRecursion P xs → P y → AllByRecursion P (insert xs i y)
all-insert P [] zero y a p = (p, tt)
all-insert P [] (suc i) y a p = (p, tt)
all-insert P (x ∷ xs) zero y a p = (p, a)
all-insert P (x ∷ xs) (suc i) y a p = (a.0, all-insert P xs i y a.1 p)

filters-turn : {X : Type 0} (p q : X → Bool) (xs : List X) → filter p (filter q xs) ≡ filter q (filter p xs)
filters-turn p q [] = refl
filters-turn {X = X} p q (x ∷ xs) = by (p x) (q x) refl refl (filters-turn p q xs)
  where
    by : (b c : Bool) → p x ≡ b → q x ≡ c → filter p (filter q xs) ≡ filter q (filter p xs)
        → filter p (cond c (x ∷ filter q xs) (filter q xs)) ≡ filter q (cond b (x ∷ filter p xs) (filter p xs))
    by true true is so h = rw (is, so) (ap (λ (ys : List X). x ∷ ys) h)
    by true false is so h = rw so h
    by false true is so h = rw is h
    by false false is so h = h

ascend-filter : {X : Type 0} (n : X → ℕ) (p : X → Bool) (xs : List X) → Ascend n xs → Ascend n (filter p xs)
ascend-filter n p [] r = r
ascend-filter {X = X} n p (x ∷ xs) r = by (p x) (ascend-filter n p xs r.1)
  where
    by : (b : Bool) → Ascend n (filter p xs) → Ascend n (cond b (x ∷ filter p xs) (filter p xs))
    by true h = (all-filter (λ y. n x ≤ n y) p xs r.0, h)
    by false h = h

pub greater : (a b : ℕ) → a ≤ b → b ≢ a → a + 1 ≤ b
greater zero zero le d = absurd (d refl)
greater zero (suc b) le d = omega arith
greater (suc a) zero le d = absurd (omega (arith, le))
greater (suc a) (suc b) le d = let rest = greater a b (omega (arith, le)) (λ e. d (ap suc e)) in omega (arith, rest)

pub default : {X : Type 0} (xs : List X) (i : ℕ) (d e : X) → i < length xs → get_or xs i d ≡ get_or xs i e
default [] i d e lt = absurd (omega (arith, lt))
default (x ∷ xs) zero d e lt = refl
default (x ∷ xs) (suc i) d e lt = default xs i d e (omega (arith, lt))

-- where those of one number stand, by a search

module _ {X : Type 0} (num : X → ℕ) where
  pub first-is : (o : ℕ) (rs : List X) (i : ℕ) → i ≤ length rs → Splits num o rs i → IsFirstFrom num o rs i
  first-is o rs i within split = record {
    within = within;
    before = all-front (λ (r : X). num r < o) rs i (λ k d less lt. ltb-true (num (get_or rs k d)) o (split.0 k d (omega arith) less));
    from = all-back (λ (r : X). o ≤ num r) rs i (λ k d le lt. ltb-false (num (get_or rs k d)) o (split.1 k d le lt));
  }

  -- where the last one has this number, or a lower one
  pub after-last : (o : ℕ) (rs : List X) (x : X) → Ascend num rs → x ≡ get_or rs (length rs - 1) x → 0 < length rs → num x ≤ o → IsFirstFrom num (o + 1) rs (length rs)
  after-last o rs x order last some le = record {
    within = omega arith;
    before = all-front (λ (r : X). num r < o + 1) rs (length rs) (λ k d less lt.
        let up = ascends num rs order k (length rs - 1) d (omega (arith, lt)) (omega (arith, some)) in
        let same : num (get_or rs (length rs - 1) d) ≡ num x = ap num (default rs (length rs - 1) d x (omega (arith, some)) ∙ sym last) in
        omega (arith, up, same, le));
    from = all-back (λ (r : X). o + 1 ≤ num r) rs (length rs) (λ k d past lt. absurd (omega (arith, past, lt)));
  }

  -- those of another number

  pub reads-other : (o : ℕ) (r : X) → num r ≢ o → is_by num o r ≡ false
  reads-other o r differs = elim (eqb_tells (num r) o) [ inl w ↦ absurd (differs w.1) | inr w ↦ w.0 ]

  pub above-none : (o : ℕ) (rs : List X) → AllByRecursion (λ (r : X). o + 1 ≤ num r) rs → filter (is_by num o) rs ≡ []
  above-none o [] a = refl
  above-none o (r ∷ rs) a =
      let above = a.0 in rw (reads-other o r (λ e. absurd (omega (arith, e, above)))) (above-none o rs a.1)

  -- one more, after those who wait for the same exchange

  ascend-insert : (rs : List X) (i : ℕ) (r : X) → Ascend num rs → IsFirstFrom num (num r + 1) rs i → Ascend num (insert rs i r)
  ascend-insert [] zero r order f = (tt, tt)
  ascend-insert [] (suc i) r order f = (tt, tt)
  ascend-insert (x ∷ xs) zero r order f = (all-more (λ (y : X). num r + 1 ≤ num y) (λ (y : X). num r ≤ num y) (λ y le. omega (arith, le)) (x ∷ xs) f.from, order)
  ascend-insert (x ∷ xs) (suc i) r order f =
      let w = f.within in
      let below = f.before.0 in (
        all-insert (λ (y : X). num x ≤ num y) xs i r order.0 (omega (arith, below)),
        ascend-insert xs i r order.1 (record { within = omega (arith, w); before = f.before.1; from = f.from }),
      )

  filter-insert : (o : ℕ) (rs : List X) (i : ℕ) (r : X) → IsFirstFrom num (num r + 1) rs i → filter (is_by num o) (insert rs i r) ≡ filter (is_by num o) rs ++ filter (is_by num o) (r ∷ [])
  filter-insert o [] zero r f = refl
  filter-insert o [] (suc i) r f = refl
  filter-insert o (x ∷ xs) zero r f = by (is_by num o r) refl
    where
      by : (b : Bool) → is_by num o r ≡ b → cond b (r ∷ filter (is_by num o) (x ∷ xs)) (filter (is_by num o) (x ∷ xs)) ≡ filter (is_by num o) (x ∷ xs) ++ cond b (r ∷ []) []
      by true is =
          let none : filter (is_by num o) (x ∷ xs) ≡ [] = above-none o (x ∷ xs) (subst (λ (n : ℕ). AllByRecursion (λ (y : X). n + 1 ≤ num y) (x ∷ xs)) (eqb-true (num r) o is) f.from) in
          ap (λ (ys : List X). r ∷ ys) none ∙ ap (λ (ys : List X). ys ++ r ∷ []) (sym none)
      by false is = sym (append-none (filter (is_by num o) (x ∷ xs)))
        where
          append-none : (ys : List X) → ys ++ [] ≡ ys
          append-none [] = refl
          append-none (y ∷ ys) = ap (λ (zs : List X). y ∷ zs) (append-none ys)
  filter-insert o (x ∷ xs) (suc i) r f =
      let w = f.within in
      by (is_by num o x) (filter-insert o xs i r (record { within = omega (arith, w); before = f.before.1; from = f.from }))
    where
      by : (b : Bool) → filter (is_by num o) (insert xs i r) ≡ filter (is_by num o) xs ++ filter (is_by num o) (r ∷ [])
          → cond b (x ∷ filter (is_by num o) (insert xs i r)) (filter (is_by num o) (insert xs i r)) ≡ cond b (x ∷ filter (is_by num o) xs) (filter (is_by num o) xs) ++ filter (is_by num o) (r ∷ [])
      by true h = ap (λ (ys : List X). x ∷ ys) h
      by false h = h

  pub grouped-push : (rs groups : List X) (i : ℕ) (r : X) → IsFirstFrom num (num r + 1) groups i → AreGrouped num rs groups → AreGrouped num (rs ++ r ∷ []) (insert groups i r)
  grouped-push rs groups i r f g = record {
    order = ascend-insert groups i r g.order f;
    same = λ o. filter-insert o groups i r f ∙ ap (λ (ys : List X). ys ++ filter (is_by num o) (r ∷ [])) (g.same o) ∙ sym (filter-append (is_by num o) rs (r ∷ []));
  }

  -- one less

  -- what holds of each in every group holds of all
  of-groups : (P : X → Type 0) (rs : List X) → ((o : ℕ) → AllByRecursion P (filter (is_by num o) rs)) → AllByRecursion P rs
  of-groups P [] f = tt
  of-groups P (r ∷ rs) f = (
    (subst (λ (b : Bool). AllByRecursion P (cond b (r ∷ filter (is_by num (num r)) rs) (filter (is_by num (num r)) rs))) (same-as (num r) (num r) refl) (f (num r))).0,
    of-groups P rs (λ o. by o (is_by num o r) (f o)),
  )
    where
      by : (o : ℕ) (b : Bool) → AllByRecursion P (cond b (r ∷ filter (is_by num o) rs) (filter (is_by num o) rs)) → AllByRecursion P (filter (is_by num o) rs)
      by o true a = a.1
      by o false a = a

  pub through-groups : (P : X → Type 0) (rs groups : List X) → AreGrouped num rs groups → AllByRecursion P rs → AllByRecursion P groups
  through-groups P rs groups g a = of-groups P groups (λ o. subst (AllByRecursion P) (sym (g.same o)) (all-filter P (is_by num o) rs a))

  pub grouped-filter : (p : X → Bool) (rs groups : List X) → AreGrouped num rs groups → AreGrouped num (filter p rs) (filter p groups)
  grouped-filter p rs groups g = record {
    order = ascend-filter num p groups g.order;
    same = λ o. filters-turn (is_by num o) p groups ∙ ap (filter p) (g.same o) ∙ filters-turn p (is_by num o) rs;
  }

  -- where one stands whose exchange is known

  abbrev pub AreThere : (X → Bool) → ℕ → List X → Type 0
  AreThere q o rs = AllByRecursion (λ (r : X). q r ≡ true → num r ≡ o) rs

  -- the one that has the ask reads what it reads
  pub only-there : (q : X → Bool) (rs : List X) (i : ℕ) (d : X) → IsOnlyAt q rs i → AreThere q (num (get_or rs i d)) rs
  only-there q [] i d only = tt
  only-there q (r ∷ rs) zero d only = (λ h. refl, all-more (λ (y : X). q y ≡ false) (λ (y : X). q y ≡ true → num y ≡ num r) (λ y no yes. absurd (false≢true (sym no ∙ yes))) rs only.1)
  only-there q (r ∷ rs) (suc i) d only = (λ h. absurd (false≢true (sym only.0 ∙ h)), only-there q rs i d only.1)

-- Who waits on a connection, by what that waits for.

pub filter-alike : {X : Type 0} (p q : X → Bool) (xs : List X) → AllByRecursion (λ x. p x ≡ q x) xs → filter p xs ≡ filter q xs
filter-alike p q [] a = refl
filter-alike {X = X} p q (x ∷ xs) a = ap (λ (b : Bool). cond b (x ∷ filter p xs) (filter p xs)) a.0 ∙ ap (λ (ys : List X). cond (q x) (x ∷ ys) ys) (filter-alike p q xs a.1)

pub conn-only : (k : ℕ) (rs : List Reader) (i : ℕ) (d : Reader) → IsOnlyAt (has_ask k) rs i → AllByRecursion (λ (r : Reader). has_ask k r ≡ true → r.conn ≡ (get_or rs i d).conn) rs
conn-only k [] i d only = tt
conn-only k (r ∷ rs) zero d only = (λ h. refl, all-more (λ (y : Reader). has_ask k y ≡ false) (λ (y : Reader). has_ask k y ≡ true → y.conn ≡ r.conn) (λ y no yes. absurd (false≢true (sym no ∙ yes))) rs only.1)
conn-only k (r ∷ rs) (suc i) d only = (λ h. absurd (false≢true (sym only.0 ∙ h)), conn-only k rs i d only.1)

-- Each who waits on the connection has the ask that this waits for.
abbrev AreWaiting : ℕ → Option ℕ → List Reader → Type 0
AreWaiting c p rs = AllByRecursion (λ (r : Reader). r.conn ≡ c → p ≡ Some r.ask) rs

not-on : (c : ℕ) (r : Reader) → r.conn ≢ c → is_on c r ≡ false
not-on c r other = elim (eqb_tells r.conn c) [ inl w ↦ absurd (other w.1) | inr w ↦ w.0 ]

pub conn-none : (c : ℕ) (p : Option ℕ) (rs : List Reader) → p ≡ None → AreWaiting c p rs → IsNowhere (is_on c) rs
conn-none c p rs none a =
    all-more (λ (r : Reader). r.conn ≡ c → p ≡ Some r.ask) (λ (r : Reader). is_on c r ≡ false)
    (λ r waits. not-on c r (λ on. none-some r.ask (sym none ∙ waits on))) rs a

has-it : (k : ℕ) (p : Option ℕ) (r : Reader) → p ≡ Some k → p ≡ Some r.ask → has_ask k r ≡ true
has-it k p r is waits = same-as r.ask k (some-is r.ask k (sym waits ∙ is))

pub conn-other : (c k : ℕ) (p : Option ℕ) (rs : List Reader) → p ≡ Some k → AreWaiting c p rs
    → AllByRecursion (λ (r : Reader). has_ask k r ≡ true → r.conn ≢ c) rs → IsNowhere (is_on c) rs
conn-other c k p [] is a others = tt
conn-other c k p (r ∷ rs) is a others = (not-on c r (λ on. others.0 (has-it k p r is (a.0 on)) on), conn-other c k p rs is a.1 others.1)

pub conn-same : (c k : ℕ) (p : Option ℕ) (rs : List Reader) → p ≡ Some k → AreWaiting c p rs
    → AllByRecursion (λ (r : Reader). has_ask k r ≡ true → r.conn ≡ c) rs → filter (λ r. not (has_ask k r)) rs ≡ filter (λ r. not (is_on c r)) rs
conn-same c k p rs is a same = filter-alike (λ r. not (has_ask k r)) (λ r. not (is_on c r)) rs (alike rs a same)
  where
    one : (r : Reader) → (r.conn ≡ c → p ≡ Some r.ask) → (has_ask k r ≡ true → r.conn ≡ c) → not (has_ask k r) ≡ not (is_on c r)
    one r waits at = elim (cases_Bool (has_ask k r)) [
      | inl h ↦ ap not (h ∙ sym (same-as r.conn c (at h)))
      | inr h ↦ ap not (h ∙ sym (not-on c r (λ on. false≢true (sym h ∙ has-it k p r is (waits on)))))
    ]

    alike : (rs : List Reader) → AreWaiting c p rs → AllByRecursion (λ (r : Reader). has_ask k r ≡ true → r.conn ≡ c) rs
        → AllByRecursion (λ (r : Reader). not (has_ask k r) ≡ not (is_on c r)) rs
    alike [] a same = tt
    alike (r ∷ rs) a same = (one r a.0 same.0, alike rs a.1 same.1)

pub only-below : {X : Type 0} (q : X → Bool) (xs : List X) (i : ℕ) → IsOnlyAt q xs i → i < length xs
only-below q [] i only = absurd only
only-below q (x ∷ xs) zero only = omega arith
only-below q (x ∷ xs) (suc i) only = let rest = only-below q xs i only.1 in omega (arith, rest)
