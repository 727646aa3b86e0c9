-- A timer is looked for by halving: those that run out before it stand first.
use Rattle.std.proofs.Common.{◌≡◌, ℕ, zero, suc, ◌<◌, ◌≤◌, Bool, true, false, cond, List, [], ◌∷◌, length, get_or, inl, inr, refl, sym, ap, subst, ◌∙◌, arith}
use Rattle.std.specs.Prelude.{insert, remove}
use Rattle.std.specs.List.Sorted.{IsPartitionedBy, IsPartitionPoint}
use Rattle.std.proofs.lemmas.Bool.{cases_Bool, false≢true}
use Rattle.endpoint_table.specs.declared.dues.Due.{Due}
use Rattle.endpoint_table.specs.Dues.{Ordered, inserted, is_before}
use Rattle.endpoint_table.proofs.TimerOrder.{itself, not-through, ordered-rest}

module _ (e : Due) where
  still-after : (x : Due) (ds : List Due) (k : ℕ) (d : Due) → Ordered (x ∷ ds)
      → k < length (x ∷ ds) → is_before x e ≡ false → is_before (get_or (x ∷ ds) k d) e ≡ false
  still-after x ds zero d o lt f = f
  still-after x [] (suc k) d o lt f = absurd (omega (arith, lt))
  still-after x (y ∷ ds) (suc k) d o lt f =
      still-after y ds k d o.1 (omega (arith, lt)) (not-through y x e o.0 f)

  pub parted : (ds : List Due) → Ordered ds → IsPartitionedBy (λ (d : Due). is_before d e) ds
  parted [] o i j d le lt so = absurd (omega (arith, lt))
  parted (x ∷ ds) o zero j d le lt so = elim (cases_Bool (is_before x e)) [
    | inl h ↦ h
    | inr f ↦ absurd (false≢true (sym (still-after x ds j d o lt f) ∙ so))
  ]
  parted (x ∷ ds) o (suc i) zero d le lt so = absurd (omega (arith, le))
  parted (x ∷ ds) o (suc i) (suc j) d le lt so =
      parted ds (ordered-rest x ds o) i j d (omega (arith, le)) (omega (arith, lt)) so

  -- what a search says of a place
  abbrev pub Splits : List Due → ℕ → Type 0
  Splits ds i =
      IsPartitionPoint (λ (d : Due). is_before d e ≡ true) (λ (d : Due). is_before d e ≡ false) ds i

  tail : (x : Due) (ds : List Due) (i : ℕ) → Splits (x ∷ ds) (suc i) → Splits ds i
  tail x ds i h = (
    λ k d a b. h.0 (suc k) d (omega arith) (omega (arith, b)),
    λ k d a b. h.1 (suc k) d (omega (arith, a)) (omega (arith, b)),
  )

  pub belongs : (ds : List Due) (i : ℕ) → Splits ds i → i ≤ length ds
      → insert ds i e ≡ inserted e ds
  belongs [] zero h le = refl
  belongs [] (suc i) h le = absurd (omega (arith, le))
  belongs (x ∷ ds) zero h le = rw (h.1 0 x (omega arith) (omega arith)) refl
  belongs (x ∷ ds) (suc i) h le =
      rw (h.0 0 x (omega arith) (omega arith))
      (ap (λ (es : List Due). x ∷ es) (belongs ds i (tail x ds i h) (omega (arith, le))))

  abbrev IsThere : List Due → ℕ → List Due → Type 0
  IsThere ds i os = (i < length ds) × (remove ds i ≡ os)

  there : (os : List Due) (i : ℕ) → Splits (inserted e os) i → IsThere (inserted e os) i os
  there [] zero h = (omega arith, refl)
  there [] (suc i) h =
      absurd (false≢true (sym (itself e) ∙ h.0 0 e (omega arith) (omega arith)))
  there (x ∷ os) i h = by (is_before x e) refl i h (there os)
    where
      by : (b : Bool) → is_before x e ≡ b → (k : ℕ)
          → Splits (cond b (x ∷ inserted e os) (e ∷ x ∷ os)) k
          → ((j : ℕ) → Splits (inserted e os) j → IsThere (inserted e os) j os)
          → IsThere (cond b (x ∷ inserted e os) (e ∷ x ∷ os)) k (x ∷ os)
      by true f zero s ih =
          absurd (false≢true (sym (s.1 0 x (omega arith) (omega arith)) ∙ f))
      by true f (suc k) s ih =
          let r = ih k (tail x (inserted e os) k s) in
          (let lt = r.0 in omega (arith, lt), ap (λ (es : List Due). x ∷ es) r.1)
      by false f zero s ih = (omega arith, refl)
      by false f (suc k) s ih =
          absurd (false≢true (sym (itself e) ∙ s.0 0 e (omega arith) (omega arith)))

  pub stands : (ds os : List Due) (i : ℕ) → Splits ds i → ds ≡ inserted e os
      → (i < length ds) × (remove ds i ≡ os)
  stands ds os i h is =
      subst (λ (es : List Due). IsThere es i os) (sym is)
      (there os i (subst (λ (es : List Due). Splits es i) is h))
