-- The first watch that is idle is the one whose key was asked for first.
use Rattle.std.proofs.Common.{◌≡◌, ℕ, ◌+◌, ◌-◌, ◌^◌, ◌<◌, ◌≤◌, ◌⊎◌, inl, inr, List, [], Option, Some, None, true, false, All, Any, sym, subst, ◌∙◌, arith, rules}
use Rattle.std.specs.Prelude.{nat_le, IfNone, IfSome}
use Rattle.std.specs.List.{list_any}
use Rattle.std.specs.Option.{SomeIff}
use Rattle.std.proofs.lemmas.Bool.{le-leb, lt-leb}
use Rattle.std.proofs.lemmas.Bool.Decides.{leb_tells}
use Rattle.std.proofs.lemmas.List.Folds.{list_any-from_Any, list_any_none}
use Rattle.observe_share.specs.declared.registration.Registration.{Registration}
use Rattle.observe_share.specs.Watches.{is_idle}
use Rattle.observe_share.specs.Due.{IsNextDue}
use Rattle.observe_share.specs.Hints.{IsFirstAsked}

-- the key of one of them was asked for at this moment, and of none before
pub record IsFirst (ws : List Registration) (first : ℕ) : Type 0 where
  pub one : Any (λ (r : Registration). r.asked ≡ first) ws
  pub least : All (λ (r : Registration). first ≤ r.asked) ws

none_before : (ws : List Registration) (first t : ℕ) → IsFirst ws first → t < first + 120000 → list_any (is_idle t) ws ≡ false
none_before ws first t h soon =
    list_any_none (is_idle t) ws (λ k d at. lt-leb _ t (omega (arith, h.least k d at, soon)))

one_at : (ws : List Registration) (first : ℕ) → IsFirst ws first → list_any (is_idle (first + 120000)) ws ≡ true
one_at ws first h =
    list_any-from_Any (is_idle (first + 120000)) ws (h.one.0, h.one.1, h.one.2, h.one.3, le-leb _ (first + 120000) (omega (arith, h.one.4)))

order : (a b : ℕ) → (a < b) ⊎ (b ≤ a)
order a b = search rules

pub due_by : (ws : List Registration) (first : ℕ) (due : Option ℕ) → IsFirst ws first → SomeIff due (first + 120000 < 2 ^ 64) (first + 120000) → IsNextDue ws due
due_by ws first None h never =
    λ t small. none_before ws first t h (elim (order (first + 120000) (2 ^ 64)) [ inl fits ↦ absurd (never fits) | inr far ↦ omega (arith, far, small) ])
due_by ws first (Some due) h fits =
    rw (fits.1) (one_at ws first h, λ t soon. none_before ws first t h soon)

-- Whether one is idle is known by the one whose key was asked for first.
pub any_idle : (ws : List Registration) (first t : ℕ) → IsFirst ws first → nat_le (first + 120000) t ≡ list_any (is_idle t) ws
any_idle ws first t h = elim (leb_tells (first + 120000) t) [
  | inl w ↦ w.0 ∙ sym (list_any-from_Any (is_idle t) ws (h.one.0, h.one.1, h.one.2, h.one.3, le-leb _ t (let late = w.1 in let same = h.one.4 in omega (arith, late, same))))
  | inr w ↦ w.0 ∙ sym (none_before ws first t h (let early = w.1 in omega (arith, early)))
]

pub first_by : (ws : List Registration) (o : Option ℕ) (first : ℕ) → IsFirstAsked ws o → o ≡ Some first → IsFirst ws first
first_by ws None first h e = absurd cc
first_by ws (Some k) first h e =
    let same : k ≡ first = cc in
    subst (λ (n : ℕ). IsFirst ws n) same (record { one = h.0; least = h.1 })

pub first_is : (ws : List Registration) (o : Option ℕ) → IfNone o (ws ≡ []) → IfSome o (λ t. Any (λ (r : Registration). r.asked ≡ t) ws)
    → IfSome o (λ t. All (λ (r : Registration). t ≤ r.asked) ws) → IsFirstAsked ws o
first_is ws None none one least = none
first_is ws (Some t) none one least = (one, least)

pub since : (t first : ℕ) → nat_le 120000 (t - first) ≡ nat_le (first + 120000) t
since t first = elim (leb_tells (first + 120000) t) [
  | inl w ↦ le-leb 120000 (t - first) (let late = w.1 in omega (arith, late)) ∙ sym w.0
  | inr w ↦ lt-leb 120000 (t - first) (let early = w.1 in omega (arith, early)) ∙ sym w.0
]
