-- Whether a connection is given up among what is given out.
use Rattle.std.proofs.Common.{◌≡◌, ◌⊎◌, inl, inr, ℕ, Bool, true, false, ◌||◌, List, [], ◌∷◌, ◌++◌, refl, sym, ap, ◌∙◌}
use Rattle.std.specs.List.{list_any}
use Rattle.gateway_model.specs.declared.input.Output.{Output}
use Rattle.gateway_model.specs.Emissions.{Emission, Says, Goes, Closed, GivenUp, Turned, Rotated, Unrotated, emission_of, emissions, given_up_by, given_up_in, is_end}
use Rattle.gateway_world.specs.declared.engine.Engine.{Engine}
use Rattle.gateway_world.specs.Engines.{IsGivenBack, MayGoBack}

module _ {R : Type 0} where
  abbrev ends : Output R → Bool
  ends o = is_end (emission_of o)

  no-ends : (xs : List (Output R)) → list_any (λ (o : Output R). is_end (emission_of o)) xs ≡ false → given_up_in (emissions xs) ≡ []
  no-ends [] e = refl
  no-ends (x ∷ xs) e = by (emission_of x) e (no-ends xs)
    where
      by : (v : Emission) → (is_end v || list_any ends xs) ≡ false
          → (list_any ends xs ≡ false → given_up_in (emissions xs) ≡ []) → given_up_by v ++ given_up_in (emissions xs) ≡ []
      by (Says c bytes) e f = f e
      by (Goes d) e f = f e
      by (Closed c) e f = f e
      by (GivenUp c) e f = absurd cc
      by Turned e f = f e
      by (Rotated h) e f = f e
      by (Unrotated fault) e f = f e

  ends-some : (xs : List (Output R)) → list_any (λ (o : Output R). is_end (emission_of o)) xs ≡ true → given_up_in (emissions xs) ≡ [] → ⊥
  ends-some [] e g = cc
  ends-some (x ∷ xs) e g = by (emission_of x) e g (ends-some xs)
    where
      by : (v : Emission) → (is_end v || list_any ends xs) ≡ true → given_up_by v ++ given_up_in (emissions xs) ≡ []
          → (list_any ends xs ≡ true → given_up_in (emissions xs) ≡ [] → ⊥) → ⊥
      by (Says c bytes) e g f = f e g
      by (Goes d) e g f = f e g
      by (Closed c) e g f = f e g
      by (GivenUp c) e g f = cc
      by Turned e g f = f e g
      by (Rotated h) e g f = f e g
      by (Unrotated fault) e g f = f e g

  -- What a call says of a slice of what is given out.
  pub ends-none : (xs ys : List (Output R)) (b : Bool) → ys ≡ xs → b ≡ list_any (λ (o : Output R). is_end (emission_of o)) ys → b ≡ false
      → given_up_in (emissions xs) ≡ []
  ends-none xs ys b same is e = no-ends xs (sym (ap (list_any ends) same) ∙ (sym is ∙ e))

  -- Where one is, the engine can go back.
  pub gone-back : (old new : Engine R) (before xs ys : List (Output R)) (b : Bool) → before ≡ []
      → IsGivenBack old (emissions before) new (emissions xs)
      → ys ≡ xs → b ≡ list_any (λ (o : Output R). is_end (emission_of o)) ys → b ≡ true → MayGoBack old new
  gone-back old new before xs ys b none (inl k) same is e = k
  gone-back old new before xs ys b none (inr stays) same is e =
      absurd (ends-some xs (sym (ap (list_any ends) same) ∙ (sym is ∙ e))
      (stays ∙ ap (λ (os : List (Output R)). given_up_in (emissions os)) none))
