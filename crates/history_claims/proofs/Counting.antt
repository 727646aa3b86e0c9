-- Lists of entries of a kind, each another one.
use Rattle.std.proofs.Common.{ℕ, zero, Bool, true, false, cond, inl, inr, List, [], ◌∷◌, ◌++◌, map, filter, sym, subst, arith}
use Rattle.std.specs.List.{Contains}
use Rattle.std.proofs.lemmas.List.Elements.{Contains-push_cases}
use Rattle.std.proofs.lemmas.List.{map-id}
use Rattle.history_laws.proofs.CallerLemmas.{contains-later, contains-map, contains-mapped, contains-none, filtered-from}
use Rattle.history_claims.specs.Causes.{AreApart}

pub apart-push : (xs : List ℕ) (y : ℕ) → AreApart xs → (Contains xs y → ⊥) → AreApart (xs ++ y ∷ [])
apart-push [] y h new = (λ c. contains-none y c, tt)
apart-push (x ∷ xs) y h new = (
  λ c. elim (Contains-push_cases xs y x c) [
    | inl w ↦ h.0 w
    | inr w ↦ new (zero, omega arith, sym w)
  ],
  apart-push xs y h.1 (λ c. new (contains-later x xs y c)),
)

pub apart-filter : {X : Type 0} (f : X → ℕ) (p : X → Bool) (xs : List X) → AreApart (map f xs) → AreApart (map f (filter p xs))
apart-filter f p [] h = tt
apart-filter {X = X} f p (x ∷ xs) h = go (p x) (apart-filter f p xs h.1)
  where
    go : (b : Bool) → AreApart (map f (filter p xs)) → AreApart (map f (cond b (x ∷ filter p xs) (filter p xs)))
    go true ih = (
      λ c.
          let it = contains-mapped f (filter p xs) (f x) c in
          h.0 (subst (Contains (map f xs)) it.2 (contains-map f xs it.0 (filtered-from p xs it.0 it.1).0)),
      ih,
    )
    go false ih = ih

pub apart-filtered : (p : ℕ → Bool) (xs : List ℕ) → AreApart xs → AreApart (filter p xs)
apart-filtered p xs h =
    subst AreApart (map-id (filter p xs)) (apart-filter (λ (n : ℕ). n) p xs (subst AreApart (sym (map-id xs)) h))
