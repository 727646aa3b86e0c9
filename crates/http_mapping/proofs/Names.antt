-- Whether a map of fields has a name, as two crates say it.
use Rattle.std.proofs.Common.{◌≡◌, ℕ, zero, suc, ◌<◌, inl, inr, Bool, true, false, List, [], ◌∷◌, map, length, bytes_eq, slice_index_or, refl, sym, ◌↔◌, IsTrue, arith}
use Rattle.std.proofs.lemmas.Bool.{cases_Bool, false≢true, false_from_ne_true}
use Rattle.std.proofs.lemmas.Slice.Eq.{bytes_eq-Decides}
use Rattle.std.specs.List.{list_any}
use Rattle.http_header.specs.HeaderMap.{ContainsKey}

module _ {X : Type 0} where
  -- a row of the map has the name
  found_at : (m : List (List ℕ × List X)) (name : List ℕ) (k : ℕ) → k < length (map (λ f. f.0) m)
      → slice_index_or (map (λ f. f.0) m) k name ≡ name → list_any (λ f. bytes_eq f.0 name) m ≡ true
  found_at [] name k lt e = absurd (omega (arith, lt))
  found_at (f ∷ m) name zero lt e =
      let same : bytes_eq f.0 name ≡ true = (bytes_eq-Decides f.0 name).1 e in
      rw same refl
  found_at (f ∷ m) name (suc k) lt e =
      let behind = found_at m name k (omega (arith, lt)) e in
      elim (cases_Bool (bytes_eq f.0 name)) [ inl y ↦ rw y refl | inr n ↦ rw n behind ]

  stands : (m : List (List ℕ × List X)) (name : List ℕ) → list_any (λ f. bytes_eq f.0 name) m ≡ true → ContainsKey m name
  stands [] name e = absurd (false≢true e)
  stands (f ∷ m) name e =
      elim (cases_Bool (bytes_eq f.0 name)) [
        | inl y ↦ (0, omega arith, (bytes_eq-Decides f.0 name).0 y)
        | inr n ↦
            let c = stands m name (rw n at e) in
            (suc c.0, (let lt = c.1 in omega (arith, lt)), c.2)
      ]

  pub has_field_is : (b : Bool) (m : List (List ℕ × List X)) (name : List ℕ) → (IsTrue b ↔ ContainsKey m name)
      → b ≡ list_any (λ f. bytes_eq f.0 name) m
  has_field_is true m name d = let c = d.0 refl in sym (found_at m name c.0 c.1 c.2)
  has_field_is false m name d = sym (false_from_ne_true _ (λ t. false≢true (d.1 (stands m name t))))
