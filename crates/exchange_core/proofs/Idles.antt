-- The first moment at which a watch is idle is the least of those at which each is.
use Rattle.std.proofs.Common.{◌≡◌, ℕ, ◌+◌, ◌<◌, ◌≤◌, ◌^◌, ◌⊎◌, inl, inr, min, Bool, true, false, List, [], ◌∷◌, Option, Some, None, refl, sym, ap, ◌∙◌, arith, rules}
use Rattle.std.specs.Prelude.{nat_le, IfSome}
use Rattle.std.specs.List.{AllByRecursion, list_any}
use Rattle.std.proofs.lemmas.Bool.{false≢true, le-leb, lt-leb}
use Rattle.std.proofs.lemmas.Bool.Decides.{leb_tells}
use Rattle.observe_share.specs.declared.registration.Registration.{Registration}
use Rattle.observe_share.specs.Due.{IsNextDue}
use Rattle.observe_share.specs.Watches.{is_idle}
use Rattle.exchange_model.specs.Due.{earlier, earliest, has_come, idle_from}
use Rattle.exchange_model.proofs.CallerLemmas.{any-came}
use Rattle.exchange_core.specs.Due.{IsAskedEarly}

early-by : (a : ℕ) (v : Option ℕ) → a ≤ 2 ^ 62 → IfSome v (λ m. m < 2 ^ 64) → IfSome (earlier (Some (a + 120000)) v) (λ m. m < 2 ^ 64)
early-by a None le h = omega (arith, le)
early-by a (Some b) le h = omega (arith, le)

early : (rs : List Registration) → AllByRecursion IsAskedEarly rs → IfSome (earliest idle_from rs) (λ m. m < 2 ^ 64)
early [] a = tt
early (r ∷ rs) a = early-by r.asked (earliest idle_from rs) a.0 (early rs a.1)

at-least : (t m : ℕ) → nat_le m t ≡ true → m ≤ t
at-least t m h = elim (leb_tells m t) [ inl w ↦ w.1 | inr w ↦ absurd (false≢true (sym w.0 ∙ h)) ]

same : (rs : List Registration) (due e : Option ℕ) → IsNextDue rs due → ((t : ℕ) → has_come t e ≡ list_any (is_idle t) rs) → IfSome e (λ m. m < 2 ^ 64) → due ≡ e
same rs None None next came low = refl
same rs None (Some m) next came low = absurd (false≢true (sym (next m low) ∙ (sym (came m) ∙ le-leb m m (omega arith))))
same rs (Some d) None next came low = absurd (false≢true (came d ∙ next.0))
same rs (Some d) (Some m) next came low =
    let above : m ≤ d = at-least d m (came d ∙ next.0) in
    let below : d ≤ m = elim (order m d) [
      | inl lt ↦ absurd (false≢true (sym (next.1 m lt) ∙ (sym (came m) ∙ le-leb m m (omega arith))))
      | inr le ↦ le
    ] in
    let equal : d ≡ m = omega (arith, above, below) in
    ap (λ (k : ℕ). Some k) equal
  where
    order : (a b : ℕ) → (a < b) ⊎ (b ≤ a)
    order a b = search rules

pub idle-first : (rs : List Registration) (due : Option ℕ) → IsNextDue rs due → AllByRecursion IsAskedEarly rs → due ≡ earliest idle_from rs
idle-first rs due next asked = same rs due (earliest idle_from rs) next (λ t. any-came t idle_from rs) (early rs asked)
