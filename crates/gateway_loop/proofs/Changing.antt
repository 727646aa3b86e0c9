-- How the connections change, each by itself.
use Rattle.std.proofs.Common.{◌≡◌, ◌≢◌, ◌⊎◌, inl, inr, ℕ, zero, suc, Bool, true, false, List, [], ◌∷◌, length, Option, Some, None, refl, sym, ap, subst, ◌∙◌, eqb-true, eq-eqb}
use Rattle.std.specs.Prelude.{◌==◌, slice_get}
use Rattle.gateway_loop.specs.Places.{EachChanges, EachKept, IsChanged, IsEmptied, IsKept}

false-true : false ≡ true → ⊥
false-true e = cc

pub same-or-not : (m n : ℕ) → (m ≡ n) ⊎ (m ≢ n)
same-or-not m n = by (m == n) refl
  where
    by : (b : Bool) → (m == n) ≡ b → (m ≡ n) ⊎ (m ≢ n)
    by true t = inl (eqb-true m n t)
    by false f = inr (λ e. false-true (sym f ∙ eq-eqb m n e))

pub not-same : (m n : ℕ) → m ≢ n → (m == n) ≡ false
not-same m n ne = by (m == n) refl
  where
    by : (b : Bool) → (m == n) ≡ b → (m == n) ≡ false
    by true t = absurd (ne (eqb-true m n t))
    by false f = f

module _ {A : Type 0} where
  changed-same : (P : A → A → Type 0) (o : Option (Option A)) → ((x : A) → P x x) → IsChanged P o o
  changed-same P (Some (Some x)) f = f x
  changed-same P (Some None) f = tt
  changed-same P None f = tt

  changed-then : (P Q T : A → A → Type 0) (o m n : Option (Option A)) → ((x y z : A) → P x y → Q y z → T x z)
      → IsChanged P o m → IsChanged Q m n → IsChanged T o n
  changed-then P Q T (Some (Some x)) (Some (Some y)) (Some (Some z)) f g h = f x y z g h
  changed-then P Q T (Some (Some x)) (Some (Some y)) (Some None) f g h = absurd h
  changed-then P Q T (Some (Some x)) (Some (Some y)) None f g h = absurd h
  changed-then P Q T (Some (Some x)) (Some None) n f g h = absurd g
  changed-then P Q T (Some (Some x)) None n f g h = absurd g
  changed-then P Q T (Some None) (Some (Some y)) n f g h = absurd g
  changed-then P Q T (Some None) (Some None) (Some (Some z)) f g h = absurd h
  changed-then P Q T (Some None) (Some None) (Some None) f g h = tt
  changed-then P Q T (Some None) (Some None) None f g h = absurd h
  changed-then P Q T (Some None) None n f g h = absurd g
  changed-then P Q T None (Some m) n f g h = absurd g
  changed-then P Q T None None (Some n) f g h = absurd h
  changed-then P Q T None None None f g h = tt

  changed-from : (P : A → A → Type 0) (o n : Option (Option A)) (y : A) → IsChanged P o n → n ≡ Some (Some y)
      → (x : A) × (o ≡ Some (Some x)) × P x y
  changed-from P (Some (Some x)) (Some (Some z)) y h e = (x, refl, subst (P x) (same z y e) h)
    where
      same : (u v : A) → Some (Some u) ≡ Some (Some v) → u ≡ v
      same u v q = cc
  changed-from P (Some (Some x)) (Some None) y h e = absurd h
  changed-from P (Some (Some x)) None y h e = absurd h
  changed-from P (Some None) (Some (Some z)) y h e = absurd h
  changed-from P (Some None) (Some None) y h e = absurd cc
  changed-from P (Some None) None y h e = absurd h
  changed-from P None (Some n) y h e = absurd h
  changed-from P None None y h e = absurd cc

  -- one that there is was there, and changed so
  pub each-from : (P : ℕ → A → A → Type 0) (a b : List (Option A)) (c : ℕ) (y : A) → EachChanges P a b
      → slice_get b c ≡ Some (Some y) → (x : A) × (slice_get a c ≡ Some (Some x)) × P c x y
  each-from P a b c y e at = changed-from (P c) (slice_get a c) (slice_get b c) y (e.each c) at

  pub each-then : (P Q T : ℕ → A → A → Type 0) (a b d : List (Option A))
      → ((c : ℕ) (x y z : A) → P c x y → Q c y z → T c x z)
      → EachChanges P a b → EachChanges Q b d → EachChanges T a d
  each-then P Q T a b d f p q = record {
    count = q.count ∙ p.count;
    each = λ c. changed-then (P c) (Q c) (T c) (slice_get a c) (slice_get b c) (slice_get d c) (f c) (p.each c) (q.each c);
  }

  pub each-same : (P : ℕ → A → A → Type 0) (a : List (Option A)) → ((c : ℕ) (x : A) → P c x x) → EachChanges P a a
  each-same P a f = record { count = refl; each = λ c. changed-same (P c) (slice_get a c) (f c) }

  -- what changes so changes otherwise too

  changed-with : (P Q : A → A → Type 0) (o n : Option (Option A)) → ((x y : A) → o ≡ Some (Some x) → P x y → Q x y)
      → IsChanged P o n → IsChanged Q o n
  changed-with P Q (Some (Some x)) (Some (Some y)) f h = f x y refl h
  changed-with P Q (Some (Some x)) (Some None) f h = absurd h
  changed-with P Q (Some (Some x)) None f h = absurd h
  changed-with P Q (Some None) (Some (Some y)) f h = absurd h
  changed-with P Q (Some None) (Some None) f h = tt
  changed-with P Q (Some None) None f h = absurd h
  changed-with P Q None (Some n) f h = absurd h
  changed-with P Q None None f h = tt

  pub each-with : (P Q : ℕ → A → A → Type 0) (a b : List (Option A))
      → ((c : ℕ) (x y : A) → slice_get a c ≡ Some (Some x) → P c x y → Q c x y) → EachChanges P a b → EachChanges Q a b
  each-with P Q a b f p = record {
    count = p.count;
    each = λ c. changed-with (P c) (Q c) (slice_get a c) (slice_get b c) (f c) (p.each c);
  }

  pub each-as : (P Q : ℕ → A → A → Type 0) (a b : List (Option A)) → ((c : ℕ) (x y : A) → P c x y → Q c x y)
      → EachChanges P a b → EachChanges Q a b
  each-as P Q a b f p = each-with P Q a b (λ c x y at h. f c x y h) p

-- one that changes may be gone

-- where there are as many, something stands at the same places
pub get-some : {A B : Type 0} (xs : List A) (ys : List B) (c : ℕ) (a : A) → length ys ≡ length xs → slice_get xs c ≡ Some a
    → (b : B) × (slice_get ys c ≡ Some b)
get-some [] ys c a n e = absurd cc
get-some (x ∷ xs) [] c a n e = absurd cc
get-some (x ∷ xs) (y ∷ ys) zero a n e = (y, refl)
get-some {A} {B} (x ∷ xs) (y ∷ ys) (suc c) a n e = get-some xs ys c a (less n) e
  where
    less : {m k : ℕ} → suc m ≡ suc k → m ≡ k
    less q = cc

module _ {A : Type 0} where
  kept-then : (P Q T : A → A → Type 0) (G H K : A → Type 0) (o m n : Option (Option A))
      → ((x y z : A) → P x y → Q y z → T x z) → ((x : A) → G x → K x) → ((x y : A) → P x y → H y → K x)
      → IsKept P G o m → IsKept Q H m n → IsKept T K o n
  kept-then P Q T G H K (Some (Some x)) (Some (Some y)) (Some (Some z)) f g h a b = f x y z a b
  kept-then P Q T G H K (Some (Some x)) (Some (Some y)) (Some None) f g h a b = h x y a b
  kept-then P Q T G H K (Some (Some x)) (Some (Some y)) None f g h a b = absurd b
  kept-then P Q T G H K (Some (Some x)) (Some None) (Some (Some z)) f g h a b = absurd b
  kept-then P Q T G H K (Some (Some x)) (Some None) (Some None) f g h a b = g x a
  kept-then P Q T G H K (Some (Some x)) (Some None) None f g h a b = absurd b
  kept-then P Q T G H K (Some (Some x)) None n f g h a b = absurd a
  kept-then P Q T G H K (Some None) (Some (Some y)) n f g h a b = absurd a
  kept-then P Q T G H K (Some None) (Some None) (Some (Some z)) f g h a b = absurd b
  kept-then P Q T G H K (Some None) (Some None) (Some None) f g h a b = tt
  kept-then P Q T G H K (Some None) (Some None) None f g h a b = absurd b
  kept-then P Q T G H K (Some None) None n f g h a b = absurd a
  kept-then P Q T G H K None (Some m) n f g h a b = absurd a
  kept-then P Q T G H K None None (Some n) f g h a b = absurd b
  kept-then P Q T G H K None None None f g h a b = tt

  kept-of : (P Q : A → A → Type 0) (G H : A → Type 0) (o n : Option (Option A))
      → ((x y : A) → o ≡ Some (Some x) → P x y → Q x y) → ((x : A) → G x → H x) → IsKept P G o n → IsKept Q H o n
  kept-of P Q G H (Some (Some x)) (Some (Some y)) f g a = f x y refl a
  kept-of P Q G H (Some (Some x)) (Some None) f g a = g x a
  kept-of P Q G H (Some (Some x)) None f g a = absurd a
  kept-of P Q G H (Some None) (Some (Some y)) f g a = absurd a
  kept-of P Q G H (Some None) (Some None) f g a = tt
  kept-of P Q G H (Some None) None f g a = absurd a
  kept-of P Q G H None (Some n) f g a = absurd a
  kept-of P Q G H None None f g a = tt

  changed-kept : (P : A → A → Type 0) (G : A → Type 0) (o n : Option (Option A)) → IsChanged P o n → IsKept P G o n
  changed-kept P G (Some (Some x)) (Some (Some y)) a = a
  changed-kept P G (Some (Some x)) (Some None) a = absurd a
  changed-kept P G (Some (Some x)) None a = absurd a
  changed-kept P G (Some None) (Some (Some y)) a = absurd a
  changed-kept P G (Some None) (Some None) a = tt
  changed-kept P G (Some None) None a = absurd a
  changed-kept P G None (Some n) a = absurd a
  changed-kept P G None None a = tt

  kept-from : (P : A → A → Type 0) (G : A → Type 0) (o n : Option (Option A)) (y : A) → IsKept P G o n → n ≡ Some (Some y)
      → (x : A) × (o ≡ Some (Some x)) × P x y
  kept-from P G (Some (Some x)) (Some (Some z)) y h e = (x, refl, subst (P x) (same z y e) h)
    where
      same : (u v : A) → Some (Some u) ≡ Some (Some v) → u ≡ v
      same u v q = cc
  kept-from P G (Some (Some x)) (Some None) y h e = absurd cc
  kept-from P G (Some (Some x)) None y h e = absurd h
  kept-from P G (Some None) (Some (Some z)) y h e = absurd h
  kept-from P G (Some None) (Some None) y h e = absurd cc
  kept-from P G (Some None) None y h e = absurd h
  kept-from P G None (Some n) y h e = absurd h
  kept-from P G None None y h e = absurd cc

  -- what stands there is gone
  kept-gone : (P : A → A → Type 0) (G : A → Type 0) (o : Option (Option A)) (b : Option A) → ((x : A) → b ≡ Some x → ⊥)
      → ((x : A) → G x) → (n : Option (Option A)) → n ≡ Some b → (a : Option A) → o ≡ Some a → IsKept P G o n
  kept-gone P G o None none g n e a f = subst (λ (q : Option (Option A)). IsKept P G o q) (sym e)
      (subst (λ (q : Option (Option A)). IsKept P G q (Some None)) (sym f) (by a))
    where
      by : (a : Option A) → IsKept P G (Some a) (Some None)
      by (Some x) = g x
      by None = tt
  kept-gone P G o (Some x) none g n e a f = absurd (none x refl)

  -- one that there is was there, and changed so
  pub all-from : (P : ℕ → A → A → Type 0) (G : ℕ → A → Type 0) (a b : List (Option A)) (c : ℕ) (y : A) → EachKept P G a b
      → slice_get b c ≡ Some (Some y) → (x : A) × (slice_get a c ≡ Some (Some x)) × P c x y
  all-from P G a b c y e at = kept-from (P c) (G c) (slice_get a c) (slice_get b c) y (e.each c) at

  pub all-then : (P Q T : ℕ → A → A → Type 0) (G H K : ℕ → A → Type 0) (a b d : List (Option A))
      → ((c : ℕ) (x y z : A) → P c x y → Q c y z → T c x z) → ((c : ℕ) (x : A) → G c x → K c x)
      → ((c : ℕ) (x y : A) → P c x y → H c y → K c x)
      → EachKept P G a b → EachKept Q H b d → EachKept T K a d
  all-then P Q T G H K a b d f g h p q = record {
    count = q.count ∙ p.count;
    each = λ c. kept-then (P c) (Q c) (T c) (G c) (H c) (K c) (slice_get a c) (slice_get b c) (slice_get d c)
        (f c) (g c) (h c) (p.each c) (q.each c);
  }

  pub all-as : (P Q : ℕ → A → A → Type 0) (G H : ℕ → A → Type 0) (a b : List (Option A))
      → ((c : ℕ) (x y : A) → slice_get a c ≡ Some (Some x) → P c x y → Q c x y) → ((c : ℕ) (x : A) → G c x → H c x)
      → EachKept P G a b → EachKept Q H a b
  all-as P Q G H a b f g p = record {
    count = p.count;
    each = λ c. kept-of (P c) (Q c) (G c) (H c) (slice_get a c) (slice_get b c) (f c) (g c) (p.each c);
  }

  pub all-kept : (P : ℕ → A → A → Type 0) (G : ℕ → A → Type 0) (a b : List (Option A)) → EachChanges P a b → EachKept P G a b
  all-kept P G a b p = record {
    count = p.count;
    each = λ c. changed-kept (P c) (G c) (slice_get a c) (slice_get b c) (p.each c);
  }

  pub all-same : (P : ℕ → A → A → Type 0) (G : ℕ → A → Type 0) (a : List (Option A)) → ((c : ℕ) (x : A) → P c x x)
      → EachKept P G a a
  all-same P G a f = all-kept P G a a (each-same P a f)

  -- all but one are as they were, and that one is gone
  pub all-emptied : (P : ℕ → A → A → Type 0) (G : ℕ → A → Type 0) (n : ℕ) (a b : List (Option A))
      → ((c : ℕ) (x : A) → c ≢ n → P c x x) → ((x : A) → G n x) → IsEmptied n a b → EachKept P G a b
  all-emptied P G n a b f g e = record { count = e.count; each = λ c. by c (same-or-not c n) }
    where
      gone : (c : ℕ) → c ≡ n → (o : Option (Option A)) → slice_get a c ≡ o → IsKept (P c) (G c) (slice_get a c) (slice_get b c)
      gone c q (Some x) is =
          let there = get-some a b c x e.count is in
          kept-gone (P c) (G c) (slice_get a c) there.0
          (λ y some. e.none y (sym (ap (slice_get b) q) ∙ (there.1 ∙ ap Some some)))
          (λ y. subst (λ (k : ℕ). G k y) (sym q) (g y)) (slice_get b c) there.1 x is
      gone c q None is = out (slice_get b c) refl
        where
          out : (m : Option (Option A)) → slice_get b c ≡ m → IsKept (P c) (G c) (slice_get a c) (slice_get b c)
          out (Some y) at =
              let there = get-some b a c y (sym e.count) at in absurd (clash is there.1)
            where
              clash : {o : Option (Option A)} {z : Option A} → o ≡ None → o ≡ Some z → ⊥
              clash u v = cc
          out None at = subst (λ (m : Option (Option A)). IsKept (P c) (G c) (slice_get a c) m) (sym at)
              (subst (λ (o : Option (Option A)). IsKept (P c) (G c) o None) (sym is) tt)

      by : (c : ℕ) → (c ≡ n) ⊎ (c ≢ n) → IsKept (P c) (G c) (slice_get a c) (slice_get b c)
      by c (inl q) = gone c q (slice_get a c) refl
      by c (inr ne) = subst (λ (m : Option (Option A)). IsKept (P c) (G c) (slice_get a c) m) (sym (e.others c ne))
          (changed-kept (P c) (G c) (slice_get a c) (slice_get a c) (changed-same (P c) (slice_get a c) (λ x. f c x ne)))
