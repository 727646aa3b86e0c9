-- What stands at a number of an annotated history stays there.
use Rattle.std.proofs.Common.{◌≡◌, ℕ, ◌<◌, ◌≢◌, ◌⊎◌, inl, inr, List, [], ◌∷◌, length, Some, refl, sym, ◌∙◌, arith, ap, suc, add-one, length-append, ◌++◌, ◌≤◌, subst}
use Rattle.std.proofs.lemmas.Bool.Decides.{eqb_tells}
use Rattle.std.specs.List.{slice_get}
use Rattle.history_laws.specs.Readings.{Noted, at, before, entries, newest}
use Rattle.history_laws.proofs.Resting.{some-is}
use Rattle.history_laws.specs.Justified.{Legal}
use Rattle.history_laws.proofs.Elements.{got-more, got-last}

-- the test of a place, both ways
pub at-cases : (x : Noted) (l : List Noted) (n : ℕ) → ((n ≡ length l) × (at (x ∷ l) n ≡ Some x)) ⊎ ((n ≢ length l) × (at (x ∷ l) n ≡ at l n))
at-cases x l n =
    elim (eqb_tells n (length l)) [ inl w ↦ inl (w.1, rw (w.0) refl) | inr w ↦ inr (w.1, rw (w.0) refl) ]

pub at-below : (l : List Noted) (n : ℕ) (y : Noted) → at l n ≡ Some y → n < length l
at-below [] n y e = cc
at-below (x ∷ older) n y e =
    elim (at-cases x older n) [ inl w ↦ omega arith | inr w ↦ let ih = at-below older n y (sym w.1 ∙ e) in omega arith ]

pub at-keeps : (x : Noted) (l : List Noted) (n : ℕ) (y : Noted) → at l n ≡ Some y → at (x ∷ l) n ≡ Some y
at-keeps x l n y e =
    let below = at-below l n y e in
    elim (at-cases x l n) [ inl w ↦ absurd (omega arith) | inr w ↦ w.1 ∙ e ]

pub at-new : (x : Noted) (l : List Noted) → at (x ∷ l) (length l) ≡ Some x
at-new x l = elim (at-cases x l (length l)) [ inl w ↦ w.1 | inr w ↦ absurd (w.0 refl) ]

pub at-old : (x : Noted) (l : List Noted) (n : ℕ) (y : Noted) → at (x ∷ l) n ≡ Some y → ((n ≡ length l) × (x ≡ y)) ⊎ (at l n ≡ Some y)
at-old x l n y e = elim (at-cases x l n) [ inl w ↦ inl (w.0, cc) | inr w ↦ inr (sym w.1 ∙ e) ]

pub at-same : (l : List Noted) (n : ℕ) (x y : Noted) → at l n ≡ Some x → at l n ≡ Some y → x ≡ y
at-same l n x y e f = some-is x y (sym e ∙ f)

pub before-keeps : (x : Noted) (l : List Noted) (n : ℕ) → n < length l → before (x ∷ l) n ≡ before l n
before-keeps x l n lt =
    elim (eqb_tells n (length l)) [ inl w ↦ absurd (omega arith) | inr w ↦ rw (w.0) refl ]

pub before-new : (x : Noted) (l : List Noted) → before (x ∷ l) (length l) ≡ l
before-new x l = elim (eqb_tells (length l) (length l)) [ inl w ↦ rw (w.0) refl | inr w ↦ absurd (w.1 refl) ]

-- the entries of a reading
pub entries-length : (l : List Noted) → length (entries l) ≡ length l
entries-length [] = refl
entries-length (x ∷ older) =
    length-append (entries older) (x.written ∷ []) ∙ (add-one (length (entries older)) ∙ ap suc (entries-length older))

pub at-entries : (l : List Noted) (n : ℕ) (x : Noted) → at l n ≡ Some x → slice_get (entries l) n ≡ Some x.written
at-entries [] n x e = absurd cc
at-entries (y ∷ older) n x e =
    elim (eqb_tells n (length older)) [
      | inl w ↦
          let same = some-is y x (rw (w.0) at e) in
          let place : n ≡ length (entries older) = w.1 ∙ sym (entries-length older) in
          subst (λ (k : ℕ). slice_get (entries older ++ y.written ∷ []) k ≡ Some x.written) (sym place)
          ((got-last (entries older) y.written []) ∙ ap (λ (v : Noted). Some v.written) same)
      | inr w ↦ got-more (entries older) (y.written ∷ []) n x.written (at-entries older n x (rw (w.0) at e))
    ]

-- moments never fall
pub at-newest : (l : List Noted) (n : ℕ) (x : Noted) → Legal l → at l n ≡ Some x → x.written.moment ≤ newest l
at-newest [] n x legal e = absurd cc
at-newest (y ∷ older) n x legal e =
    elim (at-old y older n x e) [
      | inl w ↦ subst (λ (v : Noted). v.written.moment ≤ y.written.moment) w.1 (omega arith)
      | inr w ↦ let old = at-newest older n x legal.0 w in let step = legal.1 in omega (arith, old, step)
    ]
