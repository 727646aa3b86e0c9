-- Numbers in the order of their use: each stands there once, wherever one is moved to.
use Rattle.std.proofs.Common.{◌≡◌, ◌≢◌, ℕ, zero, suc, ◌<◌, ◌≤◌, Bool, true, false, not, cond, eqb, List, [], ◌∷◌, ◌++◌, length, length-append, inl, inr, refl, sym, ap, subst, ◌∙◌, ◌||◌, arith}
use Rattle.std.specs.List.{AllByRecursion}
use Rattle.std.proofs.lemmas.Bool.{false≢true}
use Rattle.std.proofs.lemmas.Bool.Decides.{eqb_tells}
use Rattle.resp_cache.specs.Rings.{IsOrder, Lacks, is_in, without}
use Rattle.resp_cache.proofs.Linking.{all_without, apart_push, apart_without, differ, in_rest, is_same, lacks_without, length_without}

or_right : (b c : Bool) → c ≡ true → (b || c) ≡ true
or_right true c e = refl
or_right false c e = e

or_left : (b c : Bool) → b ≡ true → (b || c) ≡ true
or_left true c e = refl
or_left false c e = absurd (false≢true e)

still_in : (s t : ℕ) (os : List ℕ) → t ≢ s → is_in t os ≡ true → is_in t (without s os) ≡ true
still_in s t [] other there = there
still_in s t (x ∷ xs) other there = by (eqb x s) refl (still_in s t xs other)
  where
    by : (b : Bool) → eqb x s ≡ b → (is_in t xs ≡ true → is_in t (without s xs) ≡ true) → is_in t (cond (not b) (x ∷ without s xs) (without s xs)) ≡ true
    by true e h = elim (eqb_tells x s) [
      | inl w ↦ h (in_rest t x xs (λ same. other (sym same ∙ w.1)) there)
      | inr w ↦ absurd (false≢true (sym w.0 ∙ e))
    ]
    by false e h = elim (eqb_tells x t) [
      | inl w ↦ or_left (eqb x t) (is_in t (without s xs)) w.0
      | inr w ↦ or_right (eqb x t) (is_in t (without s xs)) (h (in_rest t x xs (differ x t w.0) there))
    ]

in_pushed : (t : ℕ) (os : List ℕ) (s : ℕ) → is_in t os ≡ true → is_in t (os ++ s ∷ []) ≡ true
in_pushed t [] s there = absurd (false≢true there)
in_pushed t (x ∷ xs) s there =
    elim (eqb_tells x t) [
      | inl w ↦ or_left (eqb x t) (is_in t (xs ++ s ∷ [])) w.0
      | inr w ↦ or_right (eqb x t) (is_in t (xs ++ s ∷ [])) (in_pushed t xs s (in_rest t x xs (differ x t w.0) there))
    ]

in_last : (os : List ℕ) (s : ℕ) → is_in s (os ++ s ∷ []) ≡ true
in_last [] s = or_left (eqb s s) false (is_same s s refl)
in_last (x ∷ xs) s = or_right (eqb x s) (is_in s (xs ++ s ∷ [])) (in_last xs s)

within_of : (n m : ℕ) (os : List ℕ) → n ≡ m → AllByRecursion (λ s. (0 < s) × (s ≤ n)) os → AllByRecursion (λ s. (0 < s) × (s ≤ m)) os
within_of n m os e w = subst (λ (k : ℕ). AllByRecursion (λ s. (0 < s) × (s ≤ k)) os) e w

at_within : (n : ℕ) (os : List ℕ) (s : ℕ) → AllByRecursion (λ t. (0 < t) × (t ≤ n)) os → is_in s os ≡ true → (0 < s) × (s ≤ n)
at_within n [] s w there = absurd (false≢true there)
at_within n (x ∷ xs) s w there =
    elim (eqb_tells x s) [
      | inl v ↦ subst (λ (m : ℕ). (0 < m) × (m ≤ n)) v.1 w.0
      | inr v ↦ at_within n xs s w.1 (in_rest s x xs (differ x s v.0) there)
    ]

pub order_none : IsOrder []
order_none = record { apart = tt; within = tt; all = λ s some few. absurd (omega (arith, some, few)) }

pub order_first : (s : ℕ) (os : List ℕ) → is_in s os ≡ true → IsOrder os → IsOrder (s ∷ without s os)
order_first s os there o =
    let len : length os ≡ suc (length (without s os)) = sym (length_without s os o.apart there) in
    let here : (0 < s) × (s ≤ length os) = at_within (length os) os s o.within there in
    record {
      apart = (lacks_without s os, apart_without s os o.apart);
      within = within_of (length os) (suc (length (without s os))) (s ∷ without s os) len (here, all_without (λ t. (0 < t) × (t ≤ length os)) s os o.within);
      all = λ t some few. elim (eqb_tells s t) [
        | inl w ↦ or_left (eqb s t) (is_in t (without s os)) w.0
        | inr w ↦ or_right (eqb s t) (is_in t (without s os)) (still_in s t os (λ e. differ s t w.0 (sym e)) (o.all t some (omega (arith, few, len))))
      ];
    }

all_pushed : (P : ℕ → Type 0) (os : List ℕ) (s : ℕ) → AllByRecursion P os → P s → AllByRecursion P (os ++ s ∷ [])
all_pushed P [] s a p = (p, tt)
all_pushed P (x ∷ xs) s a p = (a.0, all_pushed P xs s a.1 p)

pub order_last : (s : ℕ) (os : List ℕ) → is_in s os ≡ true → IsOrder os → IsOrder (without s os ++ s ∷ [])
order_last s os there o =
    let e : length os ≡ suc (length (without s os)) = sym (length_without s os o.apart there) in
    let len : length os ≡ length (without s os ++ s ∷ []) = omega (arith, e, length-append (without s os) (s ∷ [])) in
    let here : (0 < s) × (s ≤ length os) = at_within (length os) os s o.within there in
    record {
      apart = apart_push (without s os) s (lacks_without s os) (apart_without s os o.apart);
      within = within_of (length os) (length (without s os ++ s ∷ [])) (without s os ++ s ∷ []) len
          (all_pushed (λ t. (0 < t) × (t ≤ length os)) (without s os) s (all_without (λ t. (0 < t) × (t ≤ length os)) s os o.within) here);
      all = λ t some few. elim (eqb_tells s t) [
        | inl w ↦ subst (λ (n : ℕ). is_in n (without s os ++ s ∷ []) ≡ true) w.1 (in_last (without s os) s)
        | inr w ↦ in_pushed t (without s os) s (still_in s t os (λ same. differ s t w.0 (sym same)) (o.all t some (omega (arith, few, len))))
      ];
    }

more_within : (n : ℕ) (os : List ℕ) → AllByRecursion (λ s. (0 < s) × (s ≤ n)) os → AllByRecursion (λ s. (0 < s) × (s ≤ suc n)) os
more_within n [] w = tt
more_within n (x ∷ xs) w = ((w.0.0, let le = w.0.1 in omega (arith, le)), more_within n xs w.1)

lacks_above : (n : ℕ) (os : List ℕ) → AllByRecursion (λ s. (0 < s) × (s ≤ n)) os → Lacks (suc n) os
lacks_above n [] w = tt
lacks_above n (x ∷ xs) w = ((λ e. absurd (let le = w.0.1 in omega (arith, e, le))), lacks_above n xs w.1)

pub next_lacked : (os : List ℕ) → IsOrder os → Lacks (suc (length os)) os
next_lacked os o = lacks_above (length os) os o.within

below_or : (t n : ℕ) → t ≤ suc n → suc n ≢ t → t ≤ n
below_or zero n le other = omega arith
below_or (suc zero) zero le other = absurd (other refl)
below_or (suc (suc t)) zero le other = absurd (omega (arith, le))
below_or (suc t) (suc n) le other =
    let rest = below_or t n (omega (arith, le)) (λ e. other (ap suc e)) in
    omega (arith, rest)

pub order_next : (os : List ℕ) → IsOrder os → IsOrder (os ++ suc (length os) ∷ [])
order_next os o =
    let n : ℕ = suc (length os) in
    let len : length (os ++ n ∷ []) ≡ n = omega (arith, length-append os (n ∷ [])) in
    record {
      apart = apart_push os n (next_lacked os o) o.apart;
      within = within_of n (length (os ++ n ∷ [])) (os ++ n ∷ []) (sym len) (all_pushed (λ t. (0 < t) × (t ≤ n)) os n (more_within (length os) os o.within) (omega arith, omega arith));
      all = λ t some few. elim (eqb_tells n t) [
        | inl w ↦ subst (λ (m : ℕ). is_in m (os ++ n ∷ []) ≡ true) w.1 (in_last os n)
        | inr w ↦ in_pushed t os n (o.all t some (below_or t (length os) (omega (arith, few, len)) (differ n t w.0)))
      ];
    }
