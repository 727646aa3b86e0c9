-- What is looked up stands in memory after entries were given out, where it is named.
use Rattle.std.proofs.Common.{◌≡◌, ℕ, suc, zero, ◌+◌, ◌-◌, ◌≤◌, ◌<◌, Bool, true, false, cond, List, [], ◌∷◌, ◌++◌, length, get_or, map, drop, take, Some, None, append_assoc, inl, inr, refl, sym, ap, subst, ◌∙◌, arith}
use Rattle.std.specs.Prelude.{◌==◌, ◌||◌, slice_get, sum_by}
use Rattle.std.specs.Cmp.{nat_cmp_total, ranks, unsigned_ties}
use Rattle.std.specs.List.{AllByRecursion, Contains, dedup, flat_map, list_any}
use Rattle.std.specs.List.Sorted.{IsPermutation, IsSorted, IsStrictlySortedBy}
use Rattle.std.specs.Ordering.{MatchOrdering, nat_cmp}
use Rattle.std.specs.declared.cmp.Ordering.{Ordering}
use Rattle.std.specs.declared.cmp.Ordering.TheVariants.{Less}
use Rattle.std.proofs.lemmas.Bool.{eq-eqb, eqb-true, false≢true}
use Rattle.std.proofs.lemmas.List.Kept.{Contains-dedup_nat, Contains-from_dedup, IsStrictlySortedBy-dedup}
use Rattle.std.proofs.lemmas.List.Sorted.{Contains-permutation, IsPermutation-sym}
use Rattle.observe_share.specs.declared.registration.Registration.{Registration}
use Rattle.resp_cache.specs.declared.pair.Pair.{Pair}
use Rattle.journal_book.specs.Journals.{IsHere, Rise, is_among}
use Rattle.history_laws.proofs.CallerLemmas.{any-of, some-is}
use Rattle.exchange_model.specs.declared.kept.Exchange.{Exchange}
use Rattle.exchange_model.specs.declared.kept.Piece.{Piece}
use Rattle.exchange_model.specs.declared.kept.Reader.{Reader}
use Rattle.exchange_model.specs.State.{State}
use Rattle.exchange_model.specs.Memory.{AreNamed, IsLast, IsNamedBy}
use Rattle.exchange_core.proofs.TickDue.{drop-at}
use Rattle.exchange_core.specs.Giving.{ask_of, last_in, last_of, named, named_by, number_of, opening_of}

-- among some numbers

among-first : (n : ℕ) (ns : List ℕ) → is_among (n ∷ ns) n ≡ true
among-first n ns = rw (eq-eqb n n refl) refl

among-later : (m n : ℕ) (ns : List ℕ) → is_among ns n ≡ true → is_among (m ∷ ns) n ≡ true
among-later m n ns h = by (m == n)
  where
    by : (b : Bool) → (b || is_among ns n) ≡ true
    by true = refl
    by false = h

among-left : (ns ms : List ℕ) (n : ℕ) → is_among ns n ≡ true → is_among (ns ++ ms) n ≡ true
among-left [] ms n h = absurd (false≢true h)
among-left (k ∷ ns) ms n h = by (k == n) h (among-left ns ms n)
  where
    by : (b : Bool) → (b || is_among ns n) ≡ true → (is_among ns n ≡ true → is_among (ns ++ ms) n ≡ true)
        → (b || is_among (ns ++ ms) n) ≡ true
    by true e ih = refl
    by false e ih = ih e

among-right : (ns ms : List ℕ) (n : ℕ) → is_among ms n ≡ true → is_among (ns ++ ms) n ≡ true
among-right [] ms n h = h
among-right (k ∷ ns) ms n h = among-later k n (ns ++ ms) (among-right ns ms n h)

-- What is named stays, part by part.

module _ (P Q : ℕ → Type 0) where
  -- those of these that P holds of, Q holds of
  abbrev pub Stays : List ℕ → Type 0
  Stays ns = (n : ℕ) → P n → is_among ns n ≡ true → Q n

  module _ {X : Type 0} (num : X → ℕ) where
    each-stays : (xs : List X) → AllByRecursion (λ (x : X). P (num x)) xs → Stays (map num xs)
        → AllByRecursion (λ (x : X). Q (num x)) xs
    each-stays [] a f = tt
    each-stays (x ∷ xs) a f = (
      f (num x) a.0 (among-first (num x) (map num xs)),
      each-stays xs a.1 (λ n p m. f n p (among-later (num x) n (map num xs) m)),
    )

  opening-among : (b : Bool) (ask opening : ℕ) (ns : List ℕ) → b ≡ true
      → is_among ((ask ∷ cond b (opening ∷ []) []) ++ ns) opening ≡ true
  opening-among true ask opening ns e = among-later ask opening (opening ∷ ns) (among-first opening ns)
  opening-among false ask opening ns e = absurd (false≢true e)

  exchanges-stay : (es : List Exchange) → AllByRecursion (IsNamedBy P) es → Stays (flat_map named_by es)
      → AllByRecursion (IsNamedBy Q) es
  exchanges-stay [] a f = tt
  exchanges-stay (e ∷ es) a f = (
    record {
      ask = f e.ask a.0.ask (among-first e.ask _);
      registers = λ o. f e.opening (a.0.registers o) (opening-among e.observes e.ask e.opening (flat_map named_by es) o);
    },
    exchanges-stay es a.1 (λ n p m. f n p (among-right (named_by e) (flat_map named_by es) n m)),
  )

  last-stays : (ns : List ℕ) → IsLast P ns → Stays (last_in ns) → IsLast Q ns
  last-stays [] a f = tt
  last-stays (n ∷ []) a f = f n a (among-first n [])
  last-stays (n ∷ m ∷ ns) a f = last-stays (m ∷ ns) a f

  pairs-stay : (ps : List Pair) → AllByRecursion (λ (p : Pair). IsLast P p.stored.list) ps → Stays (flat_map last_of ps)
      → AllByRecursion (λ (p : Pair). IsLast Q p.stored.list) ps
  pairs-stay [] a f = tt
  pairs-stay (p ∷ ps) a f = (
    last-stays p.stored.list a.0 (λ n h m. f n h (among-left (last_of p) (flat_map last_of ps) n m)),
    pairs-stay ps a.1 (λ n h m. f n h (among-right (last_of p) (flat_map last_of ps) n m)),
  )

  pub all-stay : (S : State) → AreNamed P S → Stays (named S) → AreNamed Q S
  all-stay S a f =
      let store = flat_map last_of S.store in
      let watches = map opening_of S.watches in
      let readers = map ask_of S.readers in
      let pieces = map number_of S.pieces in
      let exchanges = flat_map named_by S.exchanges in
      let after : Stays (pieces ++ (readers ++ (watches ++ store))) = λ n p m. f n p (among-right exchanges _ n m) in
      let behind : Stays (readers ++ (watches ++ store)) = λ n p m. after n p (among-right pieces _ n m) in
      let end : Stays (watches ++ store) = λ n p m. behind n p (among-right readers _ n m) in
      record {
        exchanges = exchanges-stay S.exchanges a.exchanges (λ n p m. f n p (among-left exchanges _ n m));
        pieces = each-stays number_of S.pieces a.pieces (λ n p m. after n p (among-left pieces _ n m));
        readers = each-stays ask_of S.readers a.readers (λ n p m. behind n p (among-left readers _ n m));
        watches = each-stays opening_of S.watches a.watches (λ n p m. end n p (among-left watches _ n m));
        store = pairs-stay S.store a.store (λ n p m. end n p (among-right watches store n m));
      }

-- The numbers are sorted, and each is left once.

same-truth : (a b : Bool) → (a ≡ true → b ≡ true) → (b ≡ true → a ≡ true) → a ≡ b
same-truth true true f g = refl
same-truth true false f g = sym (f refl)
same-truth false true f g = g refl
same-truth false false f g = refl

contains-among : (ns : List ℕ) (n : ℕ) → Contains ns n → is_among ns n ≡ true
contains-among ns n h = any-of (λ (k : ℕ). k == n) ns n h (eq-eqb n n refl)

among-contains : (ns : List ℕ) (n : ℕ) → is_among ns n ≡ true → Contains ns n
among-contains [] n h = absurd (false≢true h)
among-contains (k ∷ ns) n h = by (k == n) refl h (among-contains ns n)
  where
    by : (b : Bool) → (k == n) ≡ b → (b || is_among ns n) ≡ true → (is_among ns n ≡ true → Contains ns n)
        → Contains (k ∷ ns) n
    by true e m ih = (0, omega arith, eqb-true k n e)
    by false e m ih = let c = ih m in let lt = c.1 in (suc c.0, omega (arith, lt), c.2)

pub names-same : (ns ms ks : List ℕ) (n : ℕ) → IsPermutation ns ms → ks ≡ dedup (λ (a b : ℕ). a == b) ms
    → is_among ks n ≡ is_among ns n
names-same ns ms ks n same is =
    same-truth (is_among ks n) (is_among ns n)
    (λ h. contains-among ns n (Contains-permutation ms ns n (IsPermutation-sym ns ms same)
    (Contains-from_dedup (λ (a b : ℕ). a == b) ms n (subst (λ (v : List ℕ). Contains v n) is (among-contains ks n h)))))
    (λ h. contains-among ks n (subst (λ (v : List ℕ). Contains v n) (sym is)
    (Contains-dedup_nat ms n (Contains-permutation ns ms n same (among-contains ns n h)))))

less : (n k : ℕ) → nat_cmp n k ≡ Less → n < k
less n k e = subst (λ (r : Ordering). MatchOrdering r (n < k) (n ≡ k) (k < n)) e (ranks n k)

all-less : (n : ℕ) (ks : List ℕ) → AllByRecursion (λ (k : ℕ). nat_cmp n k ≡ Less) ks → AllByRecursion (λ (k : ℕ). n < k) ks
all-less n [] a = tt
all-less n (k ∷ ks) a = (less n k a.0, all-less n ks a.1)

strict-rise : (ns : List ℕ) → IsStrictlySortedBy nat_cmp ns → Rise ns
unfolding IsStrictlySortedBy
strict-rise [] h = tt
strict-rise (n ∷ ns) h = (all-less n ns h.0, strict-rise ns h.1)

pub names-rise : (ms ks : List ℕ) → IsSorted nat_cmp ms → ks ≡ dedup (λ (a b : ℕ). a == b) ms → Rise ks
names-rise ms ks sorted is =
    subst Rise (sym is) (strict-rise (dedup (λ (a b : ℕ). a == b) ms) (IsStrictlySortedBy-dedup nat_cmp_total unsigned_ties ms sorted))

-- what they name all together
pub named-parts : (S : State) (a b c d e : List ℕ) → a ≡ [] ++ flat_map named_by S.exchanges → b ≡ a ++ map number_of S.pieces
    → c ≡ b ++ map ask_of S.readers → d ≡ c ++ map opening_of S.watches → e ≡ d ++ flat_map last_of S.store
    → (n : ℕ) → is_among e n ≡ is_among (named S) n
named-parts S a b c d e ia ib ic id ie n =
    let store = flat_map last_of S.store in
    let watches = map opening_of S.watches in
    let readers = map ask_of S.readers in
    let pieces = map number_of S.pieces in
    let exchanges = flat_map named_by S.exchanges in
    let all : e ≡ (((exchanges ++ pieces) ++ readers) ++ watches) ++ store =
    ie ∙ ap (λ (v : List ℕ). v ++ store) (id ∙ ap (λ (v : List ℕ). v ++ watches) (ic ∙ ap (λ (v : List ℕ). v ++ readers) (ib ∙ ap (λ (v : List ℕ). v ++ pieces) ia))) in
    ap (λ (v : List ℕ). is_among v n) (all ∙ joined exchanges pieces readers watches store)
  where
    assoc : (xs ys zs : List ℕ) → (xs ++ ys) ++ zs ≡ xs ++ (ys ++ zs)
    assoc [] ys zs = refl
    assoc (x ∷ xs) ys zs = ap (λ (v : List ℕ). x ∷ v) (assoc xs ys zs)

    joined : (xs ys zs us vs : List ℕ) → (((xs ++ ys) ++ zs) ++ us) ++ vs ≡ xs ++ (ys ++ (zs ++ (us ++ vs)))
    joined xs ys zs us vs =
        assoc ((xs ++ ys) ++ zs) us vs ∙ (assoc (xs ++ ys) zs (us ++ vs) ∙ assoc xs ys (zs ++ (us ++ vs)))

-- One pair more: the last of what it rests on, if there is one.

none-some : (n : ℕ) → None ≡ Some n → ⊥
none-some n e = cc

ends-at : (k : ℕ) (ks : List ℕ) → slice_get (k ∷ ks) (length (k ∷ ks) - 1) ≡ slice_get (k ∷ ks) (length ks)
ends-at k ks = let same : length (k ∷ ks) - 1 ≡ length ks = omega arith in ap (slice_get (k ∷ ks)) same

pub last-some : (ns : List ℕ) (n : ℕ) → slice_get ns (length ns - 1) ≡ Some n → last_in ns ≡ n ∷ []
last-some [] n e = absurd (none-some n e)
last-some (k ∷ ks) n e = by ks k (sym (ends-at k ks) ∙ e)
  where
    by : (js : List ℕ) (j : ℕ) → slice_get (j ∷ js) (length js) ≡ Some n → last_in (j ∷ js) ≡ n ∷ []
    by [] j f = ap (λ (m : ℕ). m ∷ []) (some-is j n f)
    by (m ∷ js) j f = by js m f

pub last-none : (ns : List ℕ) → slice_get ns (length ns - 1) ≡ None → last_in ns ≡ []
last-none [] e = refl
last-none (k ∷ ks) e = absurd (by ks k (sym (ends-at k ks) ∙ e))
  where
    by : (js : List ℕ) (j : ℕ) → slice_get (j ∷ js) (length js) ≡ None → ⊥
    by [] j f = none-some j (sym f)
    by (m ∷ js) j f = by js m f

pub pair-step : (front new total : List ℕ) (ps : List Pair) (i : ℕ) (p : Pair) → i < length ps → p ≡ get_or ps i p
    → new ≡ front ++ last_of p → front ++ flat_map last_of (drop i ps) ≡ total
    → new ++ flat_map last_of (drop (i + 1) ps) ≡ total
pair-step front new total ps i p lt is more so =
    ap (λ (ns : List ℕ). ns ++ flat_map last_of (drop (i + 1) ps)) more
    ∙ append_assoc front (last_of p) (flat_map last_of (drop (i + 1) ps))
    ∙ ap (λ (qs : List Pair). front ++ flat_map last_of qs) (sym (drop-at ps i p lt is))
    ∙ so
