-- What is kept once a segment leaves.
use Rattle.std.proofs.Common.{◌≡◌, ℕ, ◌+◌, ◌<◌, ◌≤◌, ◌⊎◌, ◌||◌, ◌&&◌, inl, inr, Bool, true, false, cond, eqb, ltb, leb, leb-true, List, [], ◌∷◌, ◌++◌, refl, sym, ap, ◌∙◌, arith}
use Rattle.std.specs.Prelude.{◌↔◌, filter}
use Rattle.std.specs.List.{AllByRecursion}
use Rattle.std.proofs.lemmas.Bool.{cases_lt, eq-eqb, eqb-true, false≢true, lt-ltb, le-leb}
use Rattle.std.proofs.lemmas.List.Elements.{filter-append}
use Rattle.std.proofs.lemmas.List.Folds.{list_any-append}
use Rattle.journal_book.specs.Journals.{IsHere, Rise, is_among, is_of, kept_after}
use Rattle.journal_book.specs.Keeping.{numbers_in}
use Rattle.journal_book.specs.declared.kept.KeptEntry.{KeptEntry}
use Rattle.journal_book.proofs.Named.{or-first, or-second}

all-filter : (P : ℕ → Type 0) (p : ℕ → Bool) (ns : List ℕ) → AllByRecursion P ns
    → AllByRecursion P (filter p ns)
all-filter P p [] h = h
all-filter P p (n ∷ ns) h = by (p n) (all-filter P p ns h.1)
  where
    by : (b : Bool) → AllByRecursion P (filter p ns)
        → AllByRecursion P (cond b (n ∷ filter p ns) (filter p ns))
    by true g = (h.0, g)
    by false g = g

rise-filter : (p : ℕ → Bool) (ns : List ℕ) → Rise ns → Rise (filter p ns)
rise-filter p [] h = h
rise-filter p (n ∷ ns) h = by (p n) (rise-filter p ns h.1)
  where
    by : (b : Bool) → Rise (filter p ns) → Rise (cond b (n ∷ filter p ns) (filter p ns))
    by true g = (all-filter (λ (k : ℕ). n < k) p ns h.0, g)
    by false g = g

all-above : (n m : ℕ) (ns : List ℕ) → n < m → AllByRecursion (λ (k : ℕ). m ≤ k) ns
    → AllByRecursion (λ (k : ℕ). n < k) ns
all-above n m [] lt h = tt
all-above n m (k ∷ ns) lt h = (let le = h.0 in omega (arith, lt, le), all-above n m ns lt h.1)

all-append : (P : ℕ → Type 0) (xs ys : List ℕ) → AllByRecursion P xs → AllByRecursion P ys
    → AllByRecursion P (xs ++ ys)
all-append P [] ys h g = g
all-append P (x ∷ xs) ys h g = (h.0, all-append P xs ys h.1 g)

rise-append : (m : ℕ) (xs ys : List ℕ) → Rise xs → Rise ys
    → AllByRecursion (λ (k : ℕ). k < m) xs → AllByRecursion (λ (k : ℕ). m ≤ k) ys → Rise (xs ++ ys)
rise-append m [] ys r s below above = s
rise-append m (x ∷ xs) ys r s below above = (
  all-append (λ (k : ℕ). x < k) xs ys r.0 (all-above x m ys below.0 above),
  rise-append m xs ys r.1 s below.1 above,
)

and-first : (b c : Bool) → (b && c) ≡ true → b ≡ true
and-first true c e = refl
and-first false c e = absurd (false≢true e)

above-first : (first many : ℕ) (ns : List ℕ)
    → AllByRecursion (λ (k : ℕ). first ≤ k) (filter (is_of first many) ns)
above-first first many [] = tt
above-first first many (n ∷ ns) = by (is_of first many n) refl (above-first first many ns)
  where
    by : (b : Bool) → is_of first many n ≡ b
        → AllByRecursion (λ (k : ℕ). first ≤ k) (filter (is_of first many) ns)
        → AllByRecursion (λ (k : ℕ). first ≤ k)
        (cond b (n ∷ filter (is_of first many) ns) (filter (is_of first many) ns))
    by true is g = (leb-true first n (and-first (leb first n) (ltb n (first + many)) is), g)
    by false is g = g

pub rise-after : (given : ℕ) (kept named : List ℕ) → Rise kept
    → AllByRecursion (λ (k : ℕ). k < given) kept → Rise named → Rise (kept_after given kept named)
rise-after given kept named r below s =
    rise-append given (filter (is_among named) kept) (filter (is_of given 1024) named)
    (rise-filter (is_among named) kept r) (rise-filter (is_of given 1024) named s)
    (all-filter (λ (k : ℕ). k < given) (is_among named) kept below) (above-first given 1024 named)

all-among : (ns : List ℕ) → AllByRecursion (λ (n : ℕ). is_among ns n ≡ true) ns
all-among [] = tt
all-among (n ∷ ns) = (
  or-first (eqb n n) (is_among ns n) (eq-eqb n n refl),
  all-more (λ (k : ℕ). is_among ns k ≡ true) (λ (k : ℕ). is_among (n ∷ ns) k ≡ true)
      (λ k h. or-second (eqb n k) (is_among ns k) h) ns (all-among ns),
)
  where
    all-more : (P Q : ℕ → Type 0) → ((k : ℕ) → P k → Q k) → (ks : List ℕ) → AllByRecursion P ks
        → AllByRecursion Q ks
    all-more P Q f [] h = tt
    all-more P Q f (k ∷ ks) h = (f k h.0, all-more P Q f ks h.1)

filter-all : (p : ℕ → Bool) (ns : List ℕ) → AllByRecursion (λ (n : ℕ). p n ≡ true) ns
    → filter p ns ≡ ns
filter-all p [] h = refl
filter-all p (n ∷ ns) h = rw h.0 (ap (λ ks. n ∷ ks) (filter-all p ns h.1))

numbers-append : {R : Type 0} (ks js : List (KeptEntry R))
    → numbers_in (ks ++ js) ≡ numbers_in ks ++ numbers_in js
numbers-append [] js = refl
numbers-append (k ∷ ks) js = ap (λ ns. k.number ∷ ns) (numbers-append ks js)

pub kept-so : {R : Type 0} (given many : ℕ) (named : List ℕ) (old copies all kept : List (KeptEntry R))
    → numbers_in kept ≡ filter (is_among named) (numbers_in all) → all ≡ old ++ copies
    → numbers_in copies ≡ filter (is_of given many) named → many ≡ 1024
    → numbers_in kept ≡ kept_after given (numbers_in old) named
kept-so given many named old copies all kept so more new is =
    let own = filter (is_of given 1024) named in
    let copied : numbers_in copies ≡ own = new ∙ ap (λ (m : ℕ). filter (is_of given m) named) is in
    so ∙ ap (λ ks. filter (is_among named) (numbers_in ks)) more
    ∙ ap (filter (is_among named)) (numbers-append old copies)
    ∙ filter-append (is_among named) (numbers_in old) (numbers_in copies)
    ∙ ap (λ (ns : List ℕ). filter (is_among named) (numbers_in old) ++ filter (is_among named) ns) copied
    ∙ ap (λ (ns : List ℕ). filter (is_among named) (numbers_in old) ++ ns)
    (filter-all (is_among named) own
    (all-filter (λ (n : ℕ). is_among named n ≡ true) (is_of given 1024) named (all-among named)))

-- what is here then

or-cases : (b c : Bool) → (b || c) ≡ true → (b ≡ true) ⊎ (c ≡ true)
or-cases true c e = inl refl
or-cases false c e = inr e

and-both : (b c : Bool) → b ≡ true → c ≡ true → (b && c) ≡ true
and-both true c e f = f
and-both false c e f = absurd (false≢true e)

and-second : (b c : Bool) → (b && c) ≡ true → c ≡ true
and-second true c e = e
and-second false c e = absurd (false≢true e)

among-filter : (p : ℕ → Bool) (ns : List ℕ) (n : ℕ) → is_among (filter p ns) n ≡ true
    → (is_among ns n ≡ true) × (p n ≡ true)
among-filter p [] n h = absurd (false≢true h)
among-filter p (k ∷ ns) n h = by (p k) refl h (among-filter p ns n)
  where
    by : (b : Bool) → p k ≡ b → is_among (cond b (k ∷ filter p ns) (filter p ns)) n ≡ true
        → (is_among (filter p ns) n ≡ true → (is_among ns n ≡ true) × (p n ≡ true))
        → (is_among (k ∷ ns) n ≡ true) × (p n ≡ true)
    by true is e f = elim (or-cases (eqb k n) (is_among (filter p ns) n) e) [
      | inl same ↦ (
        or-first (eqb k n) (is_among ns n) same,
        ap p (sym (eqb-true k n same)) ∙ is,
      )
      | inr rest ↦ let both = f rest in (or-second (eqb k n) (is_among ns n) both.0, both.1)
    ]
    by false is e f = let both = f e in (or-second (eqb k n) (is_among ns n) both.0, both.1)

filter-among : (p : ℕ → Bool) (ns : List ℕ) (n : ℕ) → is_among ns n ≡ true → p n ≡ true
    → is_among (filter p ns) n ≡ true
filter-among p [] n h so = h
filter-among p (k ∷ ns) n h so = by (p k) refl (or-cases (eqb k n) (is_among ns n) h)
    (λ e. filter-among p ns n e so)
  where
    by : (b : Bool) → p k ≡ b → (eqb k n ≡ true) ⊎ (is_among ns n ≡ true)
        → (is_among ns n ≡ true → is_among (filter p ns) n ≡ true)
        → is_among (cond b (k ∷ filter p ns) (filter p ns)) n ≡ true
    by true is (inl same) f = or-first (eqb k n) (is_among (filter p ns) n) same
    by true is (inr rest) f = or-second (eqb k n) (is_among (filter p ns) n) (f rest)
    by false is (inl same) f = absurd (false≢true (sym is ∙ ap p (eqb-true k n same) ∙ so))
    by false is (inr rest) f = f rest

among-after : (given : ℕ) (kept named : List ℕ) (n : ℕ) → is_among (kept_after given kept named) n
    ≡ (is_among (filter (is_among named) kept) n || is_among (filter (is_of given 1024) named) n)
among-after given kept named n =
    list_any-append (λ (k : ℕ). eqb k n) (filter (is_among named) kept) (filter (is_of given 1024) named)

after-of : (given : ℕ) (kept named : List ℕ) (n : ℕ)
    → IsHere (given + 1024) (kept_after given kept named) n
    → (given + 1024 ≤ n) ⊎ (IsHere given kept n × (is_among named n ≡ true))
after-of given kept named n (inl le) = inl le
after-of given kept named n (inr among) =
    elim (or-cases (is_among (filter (is_among named) kept) n) (is_among (filter (is_of given 1024) named) n)
    (sym (among-after given kept named n) ∙ among)) [
      | inl old ↦ let both = among-filter (is_among named) kept n old in inr (inr both.0, both.1)
      | inr new ↦
          let both = among-filter (is_of given 1024) named n new in
          inr (inl (leb-true given n (and-first (leb given n) (ltb n (given + 1024)) both.1)), both.0)
    ]

own-after : (given : ℕ) (kept named : List ℕ) (n : ℕ) → given ≤ n → n < given + 1024
    → is_among named n ≡ true → IsHere (given + 1024) (kept_after given kept named) n
own-after given kept named n le lt so =
    let within = and-both (leb given n) (ltb n (given + 1024)) (le-leb given n le) (lt-ltb n (given + 1024) lt) in
    inr (among-after given kept named n
    ∙ or-second (is_among (filter (is_among named) kept) n) (is_among (filter (is_of given 1024) named) n)
    (filter-among (is_of given 1024) named n so within))

still-after : (given : ℕ) (kept named : List ℕ) (n : ℕ) → IsHere given kept n
    → is_among named n ≡ true → IsHere (given + 1024) (kept_after given kept named) n
still-after given kept named n (inl le) so = elim (cases_lt n (given + 1024)) [
  | inl lt ↦ own-after given kept named n le lt so
  | inr past ↦ inl past
]
still-after given kept named n (inr old) so =
    inr (among-after given kept named n
    ∙ or-first (is_among (filter (is_among named) kept) n) (is_among (filter (is_of given 1024) named) n)
    (filter-among (is_among named) kept n old so))

after-from : (given : ℕ) (kept named : List ℕ) (n : ℕ)
    → (given + 1024 ≤ n) ⊎ (IsHere given kept n × (is_among named n ≡ true))
    → IsHere (given + 1024) (kept_after given kept named) n
after-from given kept named n (inl le) = inl le
after-from given kept named n (inr both) = still-after given kept named n both.0 both.1

pub here-after : (given : ℕ) (kept named : List ℕ) (n : ℕ)
    → IsHere (given + 1024) (kept_after given kept named) n
    ↔ ((given + 1024 ≤ n) ⊎ (IsHere given kept n × (is_among named n ≡ true)))
here-after given kept named n = (after-of given kept named n, after-from given kept named n)
