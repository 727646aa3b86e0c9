-- The order of timers.
use Rattle.std.proofs.Common.{◌≡◌, ℕ, zero, suc, ◌+◌, ◌<◌, ◌≤◌, Bool, true, false, cond, List, [], ◌∷◌, Option, Some, None, inl, inr, refl, sym, ap, ◌⊎◌, ◌∙◌, arith}
use Rattle.std.specs.Prelude.{nat_lt, ◌==◌, ◌&&◌, ◌||◌}
use Rattle.std.proofs.lemmas.Bool.{cases_Bool, eq-eqb, eqb-true, false≢true, lt-ltb, ltb-true}
use Rattle.endpoint_table.specs.declared.dues.Due.{Due}
use Rattle.endpoint_table.specs.Dues.{Ordered, dues_from, inserted, is_before, put, removed}

-- the order

abbrev pub Before : Due → Due → Type 0
Before d e = (d.due < e.due) ⊎ ((d.due ≡ e.due) × (d.place < e.place))

pub before-is : (d e : Due) → is_before d e ≡ true → Before d e
before-is d e h =
    by (nat_lt d.due e.due) refl (d.due == e.due) refl (nat_lt d.place e.place) refl h
  where
    by : (a : Bool) → nat_lt d.due e.due ≡ a → (b : Bool) → (d.due == e.due) ≡ b
        → (c : Bool) → nat_lt d.place e.place ≡ c → (a || (b && c)) ≡ true → Before d e
    by true p b q c r k = inl (ltb-true d.due e.due p)
    by false p true q true r k = inr (eqb-true d.due e.due q, ltb-true d.place e.place r)
    by false p true q false r k = absurd cc
    by false p false q c r k = absurd cc

yes : (d e : Due) → Before d e → is_before d e ≡ true
yes d e (inl lt) = rw (lt-ltb d.due e.due lt) refl
yes d e (inr h) = by (nat_lt d.due e.due)
  where
    by : (a : Bool) → (a || ((d.due == e.due) && nat_lt d.place e.place)) ≡ true
    by true = refl
    by false = rw (eq-eqb d.due e.due h.0, lt-ltb d.place e.place h.1) refl

no : (d e : Due) → (Before d e → ⊥) → is_before d e ≡ false
no d e f = elim (cases_Bool (is_before d e)) [
  | inl so ↦ absurd (f (before-is d e so))
  | inr not_so ↦ not_so
]

not-before : (d e : Due) → is_before d e ≡ false → Before d e → ⊥
not-before d e f h = false≢true (sym f ∙ yes d e h)

never-both : (d e : Due) → Before d e → Before e d → ⊥
never-both d e (inl a) (inl b) = absurd (omega (arith, a, b))
never-both d e (inl a) (inr b) = let e0 = b.0 in absurd (omega (arith, a, e0))
never-both d e (inr a) (inl b) = let e0 = a.0 in absurd (omega (arith, b, e0))
never-both d e (inr a) (inr b) =
    let p = a.1 in let q = b.1 in absurd (omega (arith, p, q))

pub itself : (e : Due) → is_before e e ≡ false
itself e = no e e (λ h. never-both e e h h)

both : (a b c : Due) → Before a b → Before b c → Before a c
both a b c (inl x) (inl y) = inl (omega (arith, x, y))
both a b c (inl x) (inr y) = let e = y.0 in inl (omega (arith, x, e))
both a b c (inr x) (inl y) = let e = x.0 in inl (omega (arith, y, e))
both a b c (inr x) (inr y) =
    let e = x.0 in let f = y.0 in let p = x.1 in let q = y.1 in
    inr (omega (arith, e, f), omega (arith, p, q))

pub three : (a b : ℕ) → (a < b) ⊎ ((a ≡ b) ⊎ (b < a))
three zero zero = inr (inl refl)
three zero (suc b) = inl (omega arith)
three (suc a) zero = inr (inr (omega arith))
three (suc a) (suc b) = elim (three a b) [
  | inl lt ↦ inl (omega (arith, lt))
  | inr rest ↦ elim rest [
    | inl e ↦ inr (inl (ap suc e))
    | inr lt ↦ inr (inr (omega (arith, lt)))
  ]
]

one-first : (d e : Due) → (d.place ≡ e.place → ⊥) → Before d e ⊎ Before e d
one-first d e apart = elim (three d.due e.due) [
  | inl lt ↦ inl (inl lt)
  | inr rest ↦ elim rest [
    | inl same ↦ elim (three d.place e.place) [
      | inl lt ↦ inl (inr (same, lt))
      | inr more ↦ elim more [
        | inl at ↦ absurd (apart at)
        | inr lt ↦ inr (inr (sym same, lt))
      ]
    ]
    | inr lt ↦ inr (inl lt)
  ]
]

abbrev pub After : Due → Due → Type 0
After d e = (e.due < d.due) ⊎ ((d.due ≡ e.due) × (e.place ≤ d.place))

pub after-is : (d e : Due) → is_before d e ≡ false → After d e
after-is d e f = elim (three d.due e.due) [
  | inl lt ↦ absurd (not-before d e f (inl lt))
  | inr rest ↦ elim rest [
    | inl same ↦ elim (three d.place e.place) [
      | inl lt ↦ absurd (not-before d e f (inr (same, lt)))
      | inr more ↦ elim more [
        | inl at ↦ inr (same, omega (arith, at))
        | inr lt ↦ inr (same, omega (arith, lt))
      ]
    ]
    | inr lt ↦ inl lt
  ]
]

after-both : (d e f : Due) → After d e → After e f → Before d f → ⊥
after-both d e f (inl a) (inl b) (inl c) = omega (arith, a, b, c)
after-both d e f (inl a) (inl b) (inr c) = let x = c.0 in omega (arith, a, b, x)
after-both d e f (inl a) (inr b) (inl c) = let x = b.0 in omega (arith, a, c, x)
after-both d e f (inl a) (inr b) (inr c) = let x = b.0 in let y = c.0 in omega (arith, a, x, y)
after-both d e f (inr a) (inl b) (inl c) = let x = a.0 in omega (arith, b, c, x)
after-both d e f (inr a) (inl b) (inr c) = let x = a.0 in let y = c.0 in omega (arith, b, x, y)
after-both d e f (inr a) (inr b) (inl c) = let x = a.0 in let y = b.0 in omega (arith, c, x, y)
after-both d e f (inr a) (inr b) (inr c) =
    let x = a.1 in let y = b.1 in let z = c.1 in omega (arith, x, y, z)

pub not-through : (d e f : Due) → is_before d e ≡ false → is_before e f ≡ false
    → is_before d f ≡ false
not-through d e f p q = no d f (after-both d e f (after-is d e p) (after-is e f q))

-- they stand in order

pub ordered-rest : (d : Due) (ds : List Due) → Ordered (d ∷ ds) → Ordered ds
ordered-rest d [] a = tt
ordered-rest d (e ∷ ds) a = a.1

ordered-front : (d e : Due) (ds : List Due) → Ordered (d ∷ e ∷ ds) → Ordered (d ∷ ds)
ordered-front d e [] a = tt
ordered-front d e (c ∷ ds) a = (not-through c e d a.1.0 a.0, a.1.1)

pub ordered-removed : (p : ℕ) (ds : List Due) → Ordered ds → Ordered (removed p ds)
ordered-removed p [] a = tt
ordered-removed p (d ∷ []) a = by (d.place == p)
  where
    by : (b : Bool) → Ordered (cond b [] (d ∷ []))
    by true = tt
    by false = tt
ordered-removed p (d ∷ e ∷ ds) a =
    by (d.place == p) (e.place == p) (ordered-removed p (e ∷ ds) a.1)
  where
    by : (b c : Bool) → Ordered (cond c ds (e ∷ removed p ds))
        → Ordered (cond b (e ∷ ds) (d ∷ cond c ds (e ∷ removed p ds)))
    by true c rest = a.1
    by false true rest = ordered-front d e ds a
    by false false rest = (a.0, rest)

ordered-inserted : (e : Due) (ds : List Due) → Ordered ds → Ordered (inserted e ds)
ordered-inserted e [] a = tt
ordered-inserted e (d ∷ []) a = by (is_before d e) refl
  where
    by : (b : Bool) → is_before d e ≡ b → Ordered (cond b (d ∷ e ∷ []) (e ∷ d ∷ []))
    by true f = (no e d (λ h. never-both d e (before-is d e f) h), tt)
    by false f = (f, tt)
ordered-inserted e (d ∷ c ∷ ds) a =
    by (is_before d e) refl (is_before c e) refl (ordered-inserted e (c ∷ ds) a.1)
  where
    by : (b : Bool) → is_before d e ≡ b → (k : Bool) → is_before c e ≡ k
        → Ordered (cond k (c ∷ inserted e ds) (e ∷ c ∷ ds))
        → Ordered (cond b (d ∷ cond k (c ∷ inserted e ds) (e ∷ c ∷ ds)) (e ∷ d ∷ c ∷ ds))
    by true f true g rest = (a.0, rest)
    by true f false g rest = (no e d (λ h. never-both d e (before-is d e f) h), rest)
    by false f k g rest = (f, a)

ordered-put : (i : ℕ) (t : Option ℕ) (ds : List Due) → Ordered ds → Ordered (put i t ds)
ordered-put i None ds a = a
ordered-put i (Some m) ds a = ordered-inserted (record { due = m; place = i }) ds a

pub ordered-from : (i : ℕ) (ts : List (Option ℕ)) → Ordered (dues_from i ts)
ordered-from i [] = tt
ordered-from i (t ∷ ts) = ordered-put i t (dues_from (i + 1) ts) (ordered-from (i + 1) ts)

-- two that are put come in any order

commute-first : (a b : Due) (ds : List Due) → Before a b
    → inserted a (inserted b ds) ≡ inserted b (inserted a ds)
commute-first a b [] h = rw (no b a (never-both a b h), yes a b h) refl
commute-first a b (d ∷ ds) h =
    by (is_before d b) refl (is_before d a) refl (commute-first a b ds h)
  where
    by : (x : Bool) → is_before d b ≡ x → (y : Bool) → is_before d a ≡ y
        → inserted a (inserted b ds) ≡ inserted b (inserted a ds)
        → inserted a (cond x (d ∷ inserted b ds) (b ∷ d ∷ ds))
        ≡ inserted b (cond y (d ∷ inserted a ds) (a ∷ d ∷ ds))
    by true f true g ih = rw (f, g) (ap (λ (es : List Due). d ∷ es) ih)
    by true f false g ih = rw (g, yes a b h, f) refl
    by false f true g ih =
        absurd (not-before d b f (both d a b (before-is d a g) h))
    by false f false g ih = rw (no b a (never-both a b h), yes a b h, f) refl

commute : (a b : Due) (ds : List Due) → (a.place ≡ b.place → ⊥)
    → inserted a (inserted b ds) ≡ inserted b (inserted a ds)
commute a b ds apart = elim (one-first a b apart) [
  | inl h ↦ commute-first a b ds h
  | inr h ↦ sym (commute-first b a ds h)
]

pub put-commute : (i j : ℕ) (t u : Option ℕ) (ds : List Due) → (i ≡ j → ⊥)
    → put i t (put j u ds) ≡ put j u (put i t ds)
put-commute i j None u ds apart = refl
put-commute i j (Some m) None ds apart = refl
put-commute i j (Some m) (Some n) ds apart =
    commute (record { due = m; place = i }) (record { due = n; place = j }) ds apart
