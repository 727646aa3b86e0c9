-- What becomes of the timers in their order where one is set, and which is the first.
use Rattle.std.proofs.Common.{◌≡◌, ℕ, zero, suc, ◌+◌, ◌<◌, ◌≤◌, min, Bool, true, false, cond, List, [], ◌∷◌, ◌++◌, length, map, Option, Some, None, inl, inr, refl, sym, ap, subst, ◌∙◌, arith, add-zero}
use Rattle.std.specs.Prelude.{◌==◌}
use Rattle.std.specs.List.{AllByRecursion}
use Rattle.std.proofs.Math.ListN.{set}
use Rattle.std.proofs.lemmas.Bool.{eq-eqb, ne_eqb}
use Rattle.exchange_model.specs.Due.{earlier, earliest, timer}
use Rattle.exchange_model.specs.State.{PeerLink}
use Rattle.endpoint_table.specs.declared.dues.Due.{Due}
use Rattle.endpoint_table.specs.Dues.{Ordered, dues_from, first_due, inserted, is_before, put, removed}
use Rattle.endpoint_table.proofs.TimerOrder.{after-is, before-is, not-through, ordered-from, ordered-rest, put-commute, After, Before}

-- one that is removed

abbrev NoneAt : ℕ → List Due → Type 0
NoneAt i ds = AllByRecursion (λ (d : Due). (d.place == i) ≡ false) ds

none-inserted : (i : ℕ) (e : Due) (ds : List Due) → (e.place == i) ≡ false → NoneAt i ds
    → NoneAt i (inserted e ds)
none-inserted i e [] h a = (h, tt)
none-inserted i e (d ∷ ds) h a = by (is_before d e) (none-inserted i e ds h a.1)
  where
    by : (b : Bool) → NoneAt i (inserted e ds)
        → NoneAt i (cond b (d ∷ inserted e ds) (e ∷ d ∷ ds))
    by true rest = (a.0, rest)
    by false rest = (h, a)

none-from : (i k : ℕ) (ts : List (Option ℕ)) → k < i → NoneAt k (dues_from i ts)
none-from i k [] lt = tt
none-from i k (None ∷ ts) lt = none-from (i + 1) k ts (omega (arith, lt))
none-from i k (Some m ∷ ts) lt =
    none-inserted k (record { due = m; place = i }) (dues_from (i + 1) ts)
    (ne_eqb i k (λ e. absurd (omega (arith, lt, e)))) (none-from (i + 1) k ts (omega (arith, lt)))

remove-none : (i : ℕ) (ds : List Due) → NoneAt i ds → removed i ds ≡ ds
remove-none i [] a = refl
remove-none i (d ∷ ds) a = rw (a.0) (ap (λ (es : List Due). d ∷ es) (remove-none i ds a.1))

remove-inserted : (e : Due) (ds : List Due) → NoneAt e.place ds
    → removed e.place (inserted e ds) ≡ ds
remove-inserted e [] a = rw (eq-eqb e.place e.place refl) refl
remove-inserted e (d ∷ ds) a = by (is_before d e) (remove-inserted e ds a.1)
  where
    by : (b : Bool) → removed e.place (inserted e ds) ≡ ds
        → removed e.place (cond b (d ∷ inserted e ds) (e ∷ d ∷ ds)) ≡ d ∷ ds
    by true ih = rw (a.0) (ap (λ (es : List Due). d ∷ es) ih)
    by false ih = rw (eq-eqb e.place e.place refl) refl

remove-put : (i : ℕ) (t : Option ℕ) (ds : List Due) → NoneAt i ds → removed i (put i t ds) ≡ ds
remove-put i None ds a = remove-none i ds a
remove-put i (Some m) ds a = remove-inserted (record { due = m; place = i }) ds a

-- what is before none of those in order comes first
first-inserted : (d e : Due) (ds : List Due) → Ordered (d ∷ ds) → is_before d e ≡ false
    → inserted e ds ≡ e ∷ ds
first-inserted d e [] a f = refl
first-inserted d e (c ∷ ds) a f = rw (not-through c d e a.0 f) refl

remove-other : (p : ℕ) (e : Due) (ds : List Due) → (e.place == p) ≡ false → Ordered ds
    → removed p (inserted e ds) ≡ inserted e (removed p ds)
remove-other p e [] h a = rw (h) refl
remove-other p e (d ∷ ds) h a =
    by (is_before d e) refl (d.place == p) refl
    (remove-other p e ds h (ordered-rest d ds a))
  where
    by : (b : Bool) → is_before d e ≡ b → (c : Bool) → (d.place == p) ≡ c
        → removed p (inserted e ds) ≡ inserted e (removed p ds)
        → removed p (cond b (d ∷ inserted e ds) (e ∷ d ∷ ds))
        ≡ inserted e (cond c ds (d ∷ removed p ds))
    by true f true g ih = rw (g) refl
    by true f false g ih = rw (g, f) (ap (λ (es : List Due). d ∷ es) ih)
    by false f true g ih = rw (h, g) (sym (first-inserted d e ds a f))
    by false f false g ih = rw (h, g, f) refl

put-other : (p i : ℕ) (t : Option ℕ) (ds : List Due) → (i ≡ p → ⊥) → Ordered ds
    → removed p (put i t ds) ≡ put i t (removed p ds)
put-other p i None ds apart a = refl
put-other p i (Some m) ds apart a =
    remove-other p (record { due = m; place = i }) ds (ne_eqb i p apart) a

-- one timer is set

pub set-from : (i k : ℕ) (ts : List (Option ℕ)) (t : Option ℕ) → k < length ts
    → dues_from i (set ts k t) ≡ put (i + k) t (removed (i + k) (dues_from i ts))
set-from i k [] t lt = absurd (omega (arith, lt))
set-from i zero (u ∷ ts) t lt =
    let D = dues_from (i + 1) ts in
    subst (λ (p : ℕ). put i t D ≡ put p t (removed p (put i u D))) (sym (add-zero i))
    (ap (put i t) (sym (remove-put i u D (none-from (i + 1) i ts (omega arith)))))
set-from i (suc k) (u ∷ ts) t lt =
    let D = dues_from (i + 1) ts in
    let p = i + suc k in
    let at : i + 1 + k ≡ p = omega arith in
    let apart : i ≡ p → ⊥ = λ e. absurd (omega (arith, e)) in
    ap (put i u) (set-from (i + 1) k ts t (omega (arith, lt))
    ∙ ap (λ (q : ℕ). put q t (removed q D)) at)
    ∙ (put-commute i p u t (removed p D) apart
    ∙ ap (put p t) (sym (put-other p i u D apart (ordered-from (i + 1) ts))))

-- one endpoint more

pub push-from : (i : ℕ) (ts : List (Option ℕ)) (t : Option ℕ)
    → dues_from i (ts ++ t ∷ []) ≡ put (i + length ts) t (dues_from i ts)
push-from i [] t = ap (λ (p : ℕ). put p t []) (sym (add-zero i))
push-from i (u ∷ ts) t =
    let p = i + suc (length ts) in
    let at : i + 1 + length ts ≡ p = omega arith in
    ap (put i u) (push-from (i + 1) ts t ∙ ap (λ (q : ℕ). put q t (dues_from (i + 1) ts)) at)
    ∙ put-commute i p u t (dues_from (i + 1) ts) (λ e. absurd (omega (arith, e)))

-- which is the first

first-earlier : (e : Due) (ds : List Due)
    → first_due (inserted e ds) ≡ earlier (Some e.due) (first_due ds)
first-earlier e [] = refl
first-earlier e (d ∷ ds) = by (is_before d e) refl
  where
    by : (b : Bool) → is_before d e ≡ b
        → first_due (cond b (d ∷ inserted e ds) (e ∷ d ∷ ds)) ≡ Some (min e.due d.due)
    by true f = ap (λ (k : ℕ). Some k) (low (before-is d e f))
      where
        low : Before d e → d.due ≡ min e.due d.due
        low (inl lt) = omega (arith, lt)
        low (inr h) = let x = h.0 in omega (arith, x)
    by false f = ap (λ (k : ℕ). Some k) (high (after-is d e f))
      where
        high : After d e → e.due ≡ min e.due d.due
        high (inl lt) = omega (arith, lt)
        high (inr h) = let x = h.0 in omega (arith, x)

pub first-from : (i : ℕ) (xs : List PeerLink)
    → first_due (dues_from i (map timer xs)) ≡ earliest timer xs
first-from i [] = refl
first-from i (x ∷ xs) = by (timer x) (first-from (i + 1) xs)
  where
    by : (t : Option ℕ) → first_due (dues_from (i + 1) (map timer xs)) ≡ earliest timer xs
        → first_due (put i t (dues_from (i + 1) (map timer xs))) ≡ earlier t (earliest timer xs)
    by None ih = ih
    by (Some m) ih =
        first-earlier (record { due = m; place = i }) (dues_from (i + 1) (map timer xs))
        ∙ ap (earlier (Some m)) ih

-- how many there are

inserted-length : (e : Due) (ds : List Due) → length (inserted e ds) ≡ suc (length ds)
inserted-length e [] = refl
inserted-length e (d ∷ ds) = by (is_before d e) (inserted-length e ds)
  where
    by : (b : Bool) → length (inserted e ds) ≡ suc (length ds)
        → length (cond b (d ∷ inserted e ds) (e ∷ d ∷ ds)) ≡ suc (suc (length ds))
    by true ih = ap suc ih
    by false ih = refl

pub few-from : (i : ℕ) (ts : List (Option ℕ)) → length (dues_from i ts) ≤ length ts
few-from i [] = omega arith
few-from i (None ∷ ts) = let ih = few-from (i + 1) ts in omega (arith, ih)
few-from i (Some m ∷ ts) =
    let ih = few-from (i + 1) ts in
    let n = inserted-length (record { due = m; place = i }) (dues_from (i + 1) ts) in
    omega (arith, ih, n)

pub put-length : (i m : ℕ) (ds : List Due) → length (put i (Some m) ds) ≡ suc (length ds)
put-length i m ds = inserted-length (record { due = m; place = i }) ds
