-- The index: what stands in a row of ranks, and what putting a slot in and taking it out make of it.
use Rattle.std.proofs.Common.{◌≡◌, ◌≢◌, ℕ, zero, suc, ◌+◌, ◌-◌, ◌*◌, ◌/◌, ◌<◌, ◌≤◌, Bool, true, false, not, cond, List, [], ◌∷◌, length, take, drop, get_or, Option, Some, None, inl, inr, refl, sym, ap, subst, ◌∙◌, nat_le, nat_lt, ltb, ltb-true, ltb-false, arith}
use Rattle.std.specs.Prelude.{filter, insert, remove}
use Rattle.std.specs.List.{AllByRecursion, slice_get}
use Rattle.std.specs.List.Sorted.{IsNonDecreasingBy, IsPartitionPoint}
use Rattle.std.proofs.lemmas.Bool.{and_from, and_parts, false≢true}
use Rattle.std.proofs.lemmas.Bool.Decides.{eqb_tells}
use Rattle.cache_key.specs.Digests.{rank_of}
use Rattle.cache_key.specs.Keys.{CacheKey}
use Rattle.cache_key.proofs.CallerLemmas.{keys_decided, places_decided, ranked_by_place}
use Rattle.resp_cache.specs.Names.{Ascend, IsFirstFrom, IsNamed, named_as, names_other, names_slot, rank_in, ranks_below, ranks_within}
use Rattle.resp_cache.specs.Slots.{Puts, holds, holds_near, slot_at}
use Rattle.resp_cache.specs.declared.names.Named.{Named}
use Rattle.resp_cache.specs.declared.pair.Pair.{Pair}
use Rattle.resp_cache.proofs.Lists.{is_false}
use Rattle.resp_cache.proofs.Linking.{differ, is_same, not_same}
use Rattle.resp_cache.proofs.Room.{le_decided, lt_decided}

-- what holds of each

all-at : {X : Type 0} (P : X → Type 0) (xs : List X) (i : ℕ) (d : X) → AllByRecursion P xs → i < length xs → P (get_or xs i d)
all-at P [] i d a lt = absurd (omega (arith, lt))
all-at P (x ∷ xs) zero d a lt = a.0
all-at P (x ∷ xs) (suc i) d a lt = all-at P xs i d a.1 (omega (arith, lt))

all-more : {X : Type 0} (P Q : X → Type 0) → ((x : X) → P x → Q x) → (xs : List X) → AllByRecursion P xs → AllByRecursion Q xs
all-more P Q more [] a = tt
all-more P Q more (x ∷ xs) a = (more x a.0, all-more P Q more xs a.1)

all-filter : {X : Type 0} (P : X → Type 0) (q : X → Bool) (xs : List X) → AllByRecursion P xs → AllByRecursion P (filter q xs)
all-filter P q [] a = tt
all-filter {X = X} P q (x ∷ xs) a = by (q x) (all-filter P q xs a.1)
  where
    by : (b : Bool) → AllByRecursion P (filter q xs) → AllByRecursion P (cond b (x ∷ filter q xs) (filter q xs))
    by true h = (a.0, h)
    by false h = h

-- a search among numbers of which none is below one before it

pub ascends : {X : Type 0} (n : X → ℕ) (xs : List X) → Ascend n xs → IsNonDecreasingBy n xs
ascends n [] order i j d le lt = absurd (omega (arith, lt))
ascends n (x ∷ xs) order zero zero d le lt = omega arith
ascends n (x ∷ xs) order (suc i) zero d le lt = absurd (omega (arith, le))
ascends n (x ∷ xs) order zero (suc j) d le lt = all-at (λ y. n x ≤ n y) xs j d order.0 (omega (arith, lt))
ascends n (x ∷ xs) order (suc i) (suc j) d le lt = ascends n xs order.1 i j d (omega (arith, le)) (omega (arith, lt))

all-front : {X : Type 0} (P : X → Type 0) (xs : List X) (i : ℕ) → ((k : ℕ) (d : X) → k < i → k < length xs → P (get_or xs k d)) → AllByRecursion P (take i xs)
all-front P [] zero f = tt
all-front P [] (suc i) f = tt
all-front P (x ∷ xs) zero f = tt
all-front P (x ∷ xs) (suc i) f = (f 0 x (omega arith) (omega arith), all-front P xs i (λ k d less lt. f (suc k) d (omega (arith, less)) (omega (arith, lt))))

all-back : {X : Type 0} (P : X → Type 0) (xs : List X) (i : ℕ) → ((k : ℕ) (d : X) → i ≤ k → k < length xs → P (get_or xs k d)) → AllByRecursion P (drop i xs)
all-back P [] zero f = tt
all-back P [] (suc i) f = tt
all-back P (x ∷ xs) zero f = (f 0 x (omega arith) (omega arith), all-back P xs zero (λ k d le lt. f (suc k) d (omega arith) (omega (arith, lt))))
all-back P (x ∷ xs) (suc i) f = all-back P xs i (λ k d le lt. f (suc k) d (omega (arith, le)) (omega (arith, lt)))

abbrev pub Splits : ℕ → List Named → ℕ → Type 0
Splits t ns i = IsPartitionPoint (λ (n : Named). ltb n.rank t ≡ true) (λ (n : Named). ltb n.rank t ≡ false) ns i

pub first-is : (t : ℕ) (ns : List Named) (i : ℕ) → i ≤ length ns → Splits t ns i → IsFirstFrom t ns i
first-is t ns i within split = record {
  within = within;
  before = all-front (λ (n : Named). n.rank < t) ns i (λ k d less lt. ltb-true (rank_in (get_or ns k d)) t (split.0 k d (omega arith) less));
  from = all-back (λ (n : Named). t ≤ n.rank) ns i (λ k d le lt. ltb-false (rank_in (get_or ns k d)) t (split.1 k d le lt));
}

-- the end of a row, looked for from its first place on

pub lower-before : (t u : ℕ) (ns : List Named) (i : ℕ) → t ≤ u → IsFirstFrom t ns i → AllByRecursion (λ (n : Named). n.rank < u) (take i ns)
lower-before t u ns i le f = all-more (λ (n : Named). n.rank < t) (λ (n : Named). n.rank < u) (λ n lt. omega (arith, lt, le)) (take i ns) f.before

lower : (t : ℕ) (n : Named) → nat_lt n.rank t ≡ true → n.rank < t
lower t n e = (lt_decided n.rank t).0 e

not-lower : (a b : ℕ) → (a < b → ⊥) → b ≤ a
not-lower a zero f = omega arith
not-lower zero (suc b) f = absurd (f (omega arith))
not-lower (suc a) (suc b) f = let rest = not-lower a b (λ lt. f (omega (arith, lt))) in omega (arith, rest)

higher : (t : ℕ) (n : Named) → nat_lt n.rank t ≡ false → t ≤ n.rank
higher t n e = not-lower n.rank t (λ lt. false≢true (sym e ∙ (lt_decided n.rank t).1 lt))

pub one-further : (t : ℕ) (ns : List Named) (i : ℕ) → ranks_below t (slice_get ns i) ≡ true → AllByRecursion (λ (n : Named). n.rank < t) (take i ns) → (i < length ns) × AllByRecursion (λ (n : Named). n.rank < t) (take (suc i) ns)
one-further t [] i below a = absurd (false≢true below)
one-further t (n ∷ ns) zero below a = (omega arith, (lower t n below, tt))
one-further t (n ∷ ns) (suc i) below a =
    let h = one-further t ns i below a.1 in
    (let lt = h.0 in omega (arith, lt), (a.0, h.1))

pub end-is : (t : ℕ) (ns : List Named) (i : ℕ) → Ascend rank_in ns → i ≤ length ns → ranks_below t (slice_get ns i) ≡ false → AllByRecursion (λ (n : Named). n.rank < t) (take i ns) → IsFirstFrom t ns i
end-is t ns i order within below a = record { within = within; before = a; from = rest ns i order below }
  where
    rest : (ns : List Named) (i : ℕ) → Ascend rank_in ns → ranks_below t (slice_get ns i) ≡ false → AllByRecursion (λ (n : Named). t ≤ n.rank) (drop i ns)
    rest [] zero order below = tt
    rest [] (suc i) order below = tt
    rest (n ∷ ns) zero order below =
        let here : t ≤ n.rank = higher t n below in
        (here, all-more (λ (m : Named). n.rank ≤ m.rank) (λ (m : Named). t ≤ m.rank) (λ m le. omega (arith, here, le)) ns order.0)
    rest (n ∷ ns) (suc i) order below = rest ns i order.1 below

-- between the two stand those whose ranks are in the row

in_row : (from to : ℕ) (n : Named) → from ≤ n.rank → n.rank < to → ranks_within from to n ≡ true
in_row from to n le lt = and_from (nat_le from n.rank) (nat_lt n.rank to) ((le_decided from n.rank).1 le) ((lt_decided n.rank to).1 lt)

before_row : (from to : ℕ) (n : Named) → n.rank < from → ranks_within from to n ≡ false
before_row from to n lt = is_false (ranks_within from to n) (λ e.
    let le = (le_decided from n.rank).0 (and_parts (nat_le from n.rank) (nat_lt n.rank to) e).0 in
    absurd (omega (arith, lt, le)))

behind_row : (from to : ℕ) (n : Named) → to ≤ n.rank → ranks_within from to n ≡ false
behind_row from to n le = is_false (ranks_within from to n) (λ e.
    let lt = (lt_decided n.rank to).0 (and_parts (nat_le from n.rank) (nat_lt n.rank to) e).1 in
    absurd (omega (arith, lt, le)))

none-behind : (from to : ℕ) (ns : List Named) → AllByRecursion (λ (n : Named). to ≤ n.rank) ns → filter (ranks_within from to) ns ≡ []
none-behind from to [] a = refl
none-behind from to (n ∷ ns) a = rw (behind_row from to n a.0) (none-behind from to ns a.1)

take-none : {X : Type 0} (n : ℕ) → take {A = X} n [] ≡ []
take-none zero = refl
take-none (suc n) = refl

so-many : (m n : ℕ) (ns : List Named) → m ≡ n → take m ns ≡ take n ns
so-many m n ns e = ap (λ (k : ℕ). take k ns) e

pub row-is : (from to : ℕ) (ns : List Named) (i j : ℕ) → i ≤ j → IsFirstFrom from ns i → IsFirstFrom to ns j → take (j - i) (drop i ns) ≡ filter (ranks_within from to) ns
row-is from to [] zero j le f g = take-none (j - 0)
row-is from to [] (suc i) j le f g = absurd (let w = f.within in omega (arith, w))
row-is from to (n ∷ ns) zero zero le f g = so-many (0 - 0) 0 (n ∷ ns) (omega arith) ∙ sym (none-behind from to (n ∷ ns) g.from)
row-is from to (n ∷ ns) zero (suc j) le f g =
    let w = g.within in
    let here = in_row from to n f.from.0 g.before.0 in
    let rest = row-is from to ns zero j (omega arith) (record { within = omega arith; before = tt; from = f.from.1 }) (record { within = omega (arith, w); before = g.before.1; from = g.from }) in
    so-many (suc j - 0) (suc j) (n ∷ ns) (omega arith)
    ∙ ap (λ (xs : List Named). n ∷ xs) (so-many j (j - 0) ns (omega arith) ∙ rest)
    ∙ ap (λ (b : Bool). cond b (n ∷ filter (ranks_within from to) ns) (filter (ranks_within from to) ns)) (sym here)
row-is from to (n ∷ ns) (suc i) zero le f g = absurd (omega (arith, le))
row-is from to (n ∷ ns) (suc i) (suc j) le f g =
    let w = f.within in
    let v = g.within in
    let here = before_row from to n f.before.0 in
    let rest = row-is from to ns i j (omega (arith, le)) (record { within = omega (arith, w); before = f.before.1; from = f.from }) (record { within = omega (arith, v); before = g.before.1; from = g.from }) in
    so-many (suc j - suc i) (j - i) (drop i ns) (omega arith)
    ∙ rest
    ∙ ap (λ (b : Bool). cond b (n ∷ filter (ranks_within from to) ns) (filter (ranks_within from to) ns)) (sym here)

-- What no slot in the row passes, no slot passes.

listed : (P : Named → Type 0) (q w : Named → Bool) (ns : List Named) (e : Named) → filter q ns ≡ e ∷ [] → w e ≡ true → AllByRecursion P (filter w ns) → P e
listed P q w [] e one so a = absurd cc
listed P q w (n ∷ ns) e one so a = by (q n) (w n) refl one a (λ h. listed P q w ns e h so)
  where
    by : (b c : Bool) → w n ≡ c → cond b (n ∷ filter q ns) (filter q ns) ≡ e ∷ [] → AllByRecursion P (cond c (n ∷ filter w ns) (filter w ns))
        → (filter q ns ≡ e ∷ [] → AllByRecursion P (filter w ns) → P e) → P e
    by true c is one a h =
        let same : n ≡ e = cc in
        let cs : c ≡ true = sym is ∙ (ap w same ∙ so) in
        subst P same ((subst (λ (b : Bool). AllByRecursion P (cond b (n ∷ filter w ns) (filter w ns))) cs a).0)
    by false true is one a h = h one a.1
    by false false is one a h = h one a

pub none-passes : (slots : List (Option Pair)) (ns : List Named) (from to : ℕ) (test : Option Pair → Bool) → IsNamed slots ns → test None ≡ false
    → ((p : Pair) → test (Some p) ≡ true → (from ≤ rank_of p.key) × (rank_of p.key < to))
    → AllByRecursion (λ (n : Named). test (slot_at slots n.slot) ≡ false) (filter (ranks_within from to) ns)
    → (s : ℕ) → test (slot_at slots s) ≡ false
none-passes slots ns from to test named empty inside none s = by (slot_at slots s) refl
  where
    by : (o : Option Pair) → slot_at slots s ≡ o → test o ≡ false
    by None at = empty
    by (Some p) at = is_false (test (Some p)) (λ e.
        let w = inside p e in
        let row : Named = record { rank = rank_of p.key; slot = s } in
        let one : filter (names_slot s) ns ≡ row ∷ [] = named.same s ∙ ap (named_as s) at in
        let un = listed (λ (n : Named). test (slot_at slots n.slot) ≡ false) (names_slot s) (ranks_within from to) ns row one (in_row from to row w.0 w.1) none in
        false≢true (sym un ∙ (ap test at ∙ e)))

-- One more.

all-insert : {X : Type 0} (P : X → Type 0) (xs : List X) (i : ℕ) (y : X) → AllByRecursion P xs → P y → AllByRecursion P (insert xs i y)
all-insert P [] zero y a p = (p, tt)
all-insert P [] (suc i) y a p = (p, tt)
all-insert P (x ∷ xs) zero y a p = (p, a)
all-insert P (x ∷ xs) (suc i) y a p = (a.0, all-insert P xs i y a.1 p)

ascend-insert : (ns : List Named) (i : ℕ) (n : Named) → Ascend rank_in ns → IsFirstFrom n.rank ns i → Ascend rank_in (insert ns i n)
ascend-insert [] zero n order f = (tt, tt)
ascend-insert [] (suc i) n order f = (tt, tt)
ascend-insert (x ∷ xs) zero n order f = (f.from, order)
ascend-insert (x ∷ xs) (suc i) n order f =
    let w = f.within in
    let below = f.before.0 in (
      all-insert (λ (y : Named). x.rank ≤ y.rank) xs i n order.0 (omega (arith, below)),
      ascend-insert xs i n order.1 (record { within = omega (arith, w); before = f.before.1; from = f.from }),
    )

filter-insert-other : (q : Named → Bool) (ns : List Named) (i : ℕ) (n : Named) → q n ≡ false → filter q (insert ns i n) ≡ filter q ns
filter-insert-other q [] zero n un = rw un refl
filter-insert-other q [] (suc i) n un = rw un refl
filter-insert-other q (x ∷ xs) zero n un = rw un refl
filter-insert-other q (x ∷ xs) (suc i) n un = ap (λ (ys : List Named). cond (q x) (x ∷ ys) ys) (filter-insert-other q xs i n un)

filter-insert-only : (q : Named → Bool) (ns : List Named) (i : ℕ) (n : Named) → q n ≡ true → filter q ns ≡ [] → filter q (insert ns i n) ≡ n ∷ []
filter-insert-only q [] zero n so none = rw so refl
filter-insert-only q [] (suc i) n so none = rw so refl
filter-insert-only q (x ∷ xs) zero n so none = rw so (ap (λ (ys : List Named). n ∷ ys) none)
filter-insert-only q (x ∷ xs) (suc i) n so none = by (q x) none (filter-insert-only q xs i n so)
  where
    by : (b : Bool) → cond b (x ∷ filter q xs) (filter q xs) ≡ [] → (filter q xs ≡ [] → filter q (insert xs i n) ≡ n ∷ [])
        → cond b (x ∷ filter q (insert xs i n)) (filter q (insert xs i n)) ≡ n ∷ []
    by true e h = absurd cc
    by false e h = h e

pub named-put : (slots after : List (Option Pair)) (ns : List Named) (i r s : ℕ) (p : Pair) → IsFirstFrom r ns i → rank_of p.key ≡ r → slot_at slots s ≡ None → Puts slots after s (Some p)
    → IsNamed slots ns → IsNamed after (insert ns i (record { rank = r; slot = s }))
named-put slots after ns i r s p first rank empty puts named = record {
  order = ascend-insert ns i (record { rank = r; slot = s }) named.order first;
  same = λ t. elim (eqb_tells t s) [
    | inl w ↦
        let none : filter (names_slot t) ns ≡ [] = named.same t ∙ ap (named_as t) (ap (slot_at slots) w.1 ∙ empty) in
        let one = filter-insert-only (names_slot t) ns i (record { rank = r; slot = s }) (is_same s t (sym w.1)) none in
        let put : slot_at after t ≡ Some p = puts t ∙ ap (λ (b : Bool). cond b (Some p) (slot_at slots t)) w.0 in
        let entry : ℕ → ℕ → List Named = λ k m. record { rank = k; slot = m } ∷ [] in
        one ∙ (ap (λ (k : ℕ). entry k s) (sym rank) ∙ (ap (λ (m : ℕ). entry (rank_of p.key) m) (sym w.1) ∙ sym (ap (named_as t) put)))
    | inr w ↦
        let other : t ≢ s = differ t s w.0 in
        let stays : slot_at after t ≡ slot_at slots t = puts t ∙ ap (λ (b : Bool). cond b (Some p) (slot_at slots t)) w.0 in
        filter-insert-other (names_slot t) ns i (record { rank = r; slot = s }) (not_same s t (λ e. other (sym e))) ∙ (named.same t ∙ ap (named_as t) (sym stays))
  ];
}

-- One less.

pub ascend-filter : (q : Named → Bool) (ns : List Named) → Ascend rank_in ns → Ascend rank_in (filter q ns)
ascend-filter q [] r = r
ascend-filter q (x ∷ xs) r = by (q x) (ascend-filter q xs r.1)
  where
    by : (b : Bool) → Ascend rank_in (filter q xs) → Ascend rank_in (cond b (x ∷ filter q xs) (filter q xs))
    by true h = (all-filter (λ (y : Named). x.rank ≤ y.rank) q xs r.0, h)
    by false h = h

left-other : (s t : ℕ) (ns : List Named) → t ≢ s → filter (names_slot t) (filter (λ n. not (names_slot s n)) ns) ≡ filter (names_slot t) ns
left-other s t [] other = refl
left-other s t (n ∷ ns) other = by (names_slot s n) (names_slot t n) refl refl (left-other s t ns other)
  where
    by : (b c : Bool) → names_slot s n ≡ b → names_slot t n ≡ c → filter (names_slot t) (filter (λ m. not (names_slot s m)) ns) ≡ filter (names_slot t) ns
        → filter (names_slot t) (cond (not b) (n ∷ filter (λ m. not (names_slot s m)) ns) (filter (λ m. not (names_slot s m)) ns)) ≡ cond c (n ∷ filter (names_slot t) ns) (filter (names_slot t) ns)
    by true true is so h = absurd (elim (eqb_tells n.slot s) [
      | inl w ↦ elim (eqb_tells n.slot t) [ inl v ↦ other (sym v.1 ∙ w.1) | inr v ↦ false≢true (sym v.0 ∙ so) ]
      | inr w ↦ false≢true (sym w.0 ∙ is)
    ])
    by true false is so h = h
    by false true is so h = rw so (ap (λ (ys : List Named). n ∷ ys) h)
    by false false is so h = rw so h

left-none : (s : ℕ) (ns : List Named) → filter (names_slot s) (filter (λ n. not (names_slot s n)) ns) ≡ []
left-none s [] = refl
left-none s (n ∷ ns) = by (names_slot s n) refl (left-none s ns)
  where
    by : (b : Bool) → names_slot s n ≡ b → filter (names_slot s) (filter (λ m. not (names_slot s m)) ns) ≡ []
        → filter (names_slot s) (cond (not b) (n ∷ filter (λ m. not (names_slot s m)) ns) (filter (λ m. not (names_slot s m)) ns)) ≡ []
    by true is h = h
    by false is h = rw is h

pub named-drop : (slots after : List (Option Pair)) (ns news : List Named) (s : ℕ) → news ≡ filter (λ n. not (names_slot s n)) ns → Puts slots after s None
    → IsNamed slots ns → IsNamed after news
named-drop slots after ns news s is puts named =
    let P : List Named → Type 0 = λ xs. IsNamed after xs in
    subst P (sym is) (record {
      order = ascend-filter (λ n. not (names_slot s n)) ns named.order;
      same = λ t. elim (eqb_tells t s) [
        | inl w ↦
            let gone : slot_at after t ≡ None = puts t ∙ ap (λ (b : Bool). cond b None (slot_at slots t)) w.0 in
            ap (λ (k : ℕ). filter (names_slot k) (filter (λ n. not (names_slot s n)) ns)) w.1 ∙ (left-none s ns ∙ sym (ap (named_as t) gone))
        | inr w ↦
            let stays : slot_at after t ≡ slot_at slots t = puts t ∙ ap (λ (b : Bool). cond b None (slot_at slots t)) w.0 in
            left-other s t ns (differ t s w.0) ∙ (named.same t ∙ ap (named_as t) (sym stays))
      ];
    })

pub named-same : (slots after : List (Option Pair)) (ns : List Named) → ((t : ℕ) → slot_at after t ≡ slot_at slots t) → IsNamed slots ns → IsNamed after ns
named-same slots after ns same named = record { order = named.order; same = λ t. named.same t ∙ ap (named_as t) (sym (same t)) }

-- the place where a slot's name stands, which no other has

none-dropped : (q : Named → Bool) (ns : List Named) → filter q ns ≡ [] → filter (λ n. not (q n)) ns ≡ ns
none-dropped q [] none = refl
none-dropped q (n ∷ ns) none = by (q n) none (none-dropped q ns)
  where
    by : (b : Bool) → cond b (n ∷ filter q ns) (filter q ns) ≡ [] → (filter q ns ≡ [] → filter (λ m. not (q m)) ns ≡ ns)
        → cond (not b) (n ∷ filter (λ m. not (q m)) ns) (filter (λ m. not (q m)) ns) ≡ n ∷ ns
    by true e h = absurd cc
    by false e h = ap (λ (ys : List Named). n ∷ ys) (h e)

rest-none : (n e : Named) (ns : List Named) → n ∷ ns ≡ e ∷ [] → ns ≡ []
rest-none n e [] one = refl
rest-none n e (m ∷ ns) one = absurd cc

-- Those of lower ranks aren't it.
pub none-before : (s : ℕ) (ns : List Named) (e : Named) (i : ℕ) → filter (names_slot s) ns ≡ e ∷ [] → IsFirstFrom e.rank ns i → AllByRecursion (λ (n : Named). names_slot s n ≡ false) (take i ns)
none-before s [] e zero one f = tt
none-before s [] e (suc i) one f = tt
none-before s (n ∷ ns) e zero one f = tt
none-before s (n ∷ ns) e (suc i) one f =
    let w = f.within in
    by (names_slot s n) refl one (λ h. none-before s ns e i h (record { within = omega (arith, w); before = f.before.1; from = f.from }))
  where
    by : (b : Bool) → names_slot s n ≡ b → cond b (n ∷ filter (names_slot s) ns) (filter (names_slot s) ns) ≡ e ∷ []
        → (filter (names_slot s) ns ≡ e ∷ [] → AllByRecursion (λ (m : Named). names_slot s m ≡ false) (take i ns))
        → (names_slot s n ≡ false) × AllByRecursion (λ (m : Named). names_slot s m ≡ false) (take i ns)
    by true is h g =
        let same : n ≡ e = cc in
        let below = f.before.0 in
        let rank : n.rank ≡ e.rank = ap rank_in same in
        absurd (omega (arith, below, rank))
    by false is h g = (is, g h)

pub one-more-not : (s : ℕ) (ns : List Named) (i : ℕ) → names_other s (slice_get ns i) ≡ true → AllByRecursion (λ (n : Named). names_slot s n ≡ false) (take i ns)
    → (i < length ns) × AllByRecursion (λ (n : Named). names_slot s n ≡ false) (take (suc i) ns)
one-more-not s [] i other a = absurd (false≢true other)
one-more-not s (n ∷ ns) zero other a = (omega arith, (is_false (names_slot s n) (λ e. false≢true (sym (ap not e) ∙ other)), tt))
one-more-not s (n ∷ ns) (suc i) other a =
    let h = one-more-not s ns i other a.1 in
    (let lt = h.0 in omega (arith, lt), (a.0, h.1))

pub found-place : (s : ℕ) (ns : List Named) (e : Named) (i : ℕ) → filter (names_slot s) ns ≡ e ∷ [] → names_other s (slice_get ns i) ≡ false → AllByRecursion (λ (n : Named). names_slot s n ≡ false) (take i ns)
    → (i < length ns) × (filter (λ n. not (names_slot s n)) ns ≡ remove ns i)
found-place s [] e i one other a = absurd cc
found-place s (n ∷ ns) e zero one other a = by (names_slot s n) refl one other
  where
    by : (b : Bool) → names_slot s n ≡ b → cond b (n ∷ filter (names_slot s) ns) (filter (names_slot s) ns) ≡ e ∷ [] → not b ≡ false
        → (0 < length (n ∷ ns)) × (cond (not b) (n ∷ filter (λ m. not (names_slot s m)) ns) (filter (λ m. not (names_slot s m)) ns) ≡ ns)
    by true is h un = (omega arith, none-dropped (names_slot s) ns (rest-none n e (filter (names_slot s) ns) h))
    by false is h un = absurd (false≢true (sym un))
found-place s (n ∷ ns) e (suc i) one other a =
    let h = found-place s ns e i (subst (λ (b : Bool). cond b (n ∷ filter (names_slot s) ns) (filter (names_slot s) ns) ≡ e ∷ []) a.0 one) other a.1 in
    (let lt = h.0 in omega (arith, lt), rw a.0 (ap (λ (ys : List Named). n ∷ ys) h.1))

-- The ranks of a key, and of the keys of a place, are in a row.

pub key_inside : (key : CacheKey) (p : Pair) (r : ℕ) → r ≡ rank_of key → holds key (Some p) ≡ true → (r ≤ rank_of p.key) × (rank_of p.key < r + 1)
key_inside key p r is e =
    let same : rank_of p.key ≡ rank_of key = ap rank_of ((keys_decided p.key key).0 e) in
    (omega (arith, is, same), omega (arith, is, same))

pub near_inside : (key : CacheKey) (p : Pair) (row : ℕ) → row ≡ rank_of key / 65536 → holds_near key (Some p) ≡ true → (row * 65536 ≤ rank_of p.key) × (rank_of p.key < row * 65536 + 65536)
near_inside key p row is e =
    let same = ranked_by_place p.key key ((places_decided p.key.place key.place).0 e) in
    (omega (arith, is, same), omega (arith, is, same))

pub all-found : {X : Type 0} (P : X → Type 0) (xs : List X) → ((k : ℕ) (d : X) → k < length xs → P (get_or xs k d)) → AllByRecursion P xs
all-found P [] f = tt
all-found P (x ∷ xs) f = (f 0 x (omega arith), all-found P xs (λ k d lt. f (suc k) d (omega (arith, lt))))
