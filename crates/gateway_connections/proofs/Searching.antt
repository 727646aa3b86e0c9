-- Where a binary search over rising numbers comes to.
use Rattle.std.proofs.Common.{◌≡◌, ◌≢◌, ℕ, zero, suc, ◌<◌, ◌≤◌, List, [], ◌∷◌, length, get_or, inl, inr, true, false, not, refl, sym, ap, ◌∙◌, ◌⊎◌, ltb, ltb-true, ltb-false, arith}
use Rattle.std.specs.List.{All, filter}
use Rattle.std.specs.List.Sorted.{IsNonDecreasingBy, IsPartitionPoint}
use Rattle.std.proofs.lemmas.List.{get_or_default}
use Rattle.std.proofs.lemmas.List.Elements.{All-map, All-filter}
use Rattle.gateway_connections.specs.declared.row.Row.{Row}
use Rattle.gateway_connections.specs.Inlets.{Inlet}
use Rattle.gateway_connections.specs.Rows.{AreInOrder, current_in, number_in, current_of}

pub rises : (rows : List Row) (i j : ℕ) (d : Row) → AreInOrder rows → i < j → j < length rows → number_in (get_or rows i d) < number_in (get_or rows j d)
rises [] i j d order less lt = absurd (omega (arith, lt))
rises (z ∷ zs) i zero d order less lt = absurd (omega (arith, less))
rises (z ∷ zs) zero (suc j) d order less lt = order.0 j d (omega (arith, lt))
rises (z ∷ zs) (suc i) (suc j) d order less lt = rises zs i j d order.1 (omega (arith, less)) (omega (arith, lt))

three : (a b : ℕ) → (a < b) ⊎ ((a ≡ b) ⊎ (b < a))
three zero zero = inr (inl refl)
three zero (suc b) = inl (omega arith)
three (suc a) zero = inr (inr (omega arith))
three (suc a) (suc b) =
    elim (three a b) [
      | inl lt ↦ inl (omega (arith, lt))
      | inr rest ↦ elim rest [ inl e ↦ inr (inl (ap suc e)) | inr lt ↦ inr (inr (omega (arith, lt))) ]
    ]

pub non-decreasing : (rows : List Row) → AreInOrder rows → IsNonDecreasingBy number_in rows
non-decreasing rows order i j d le lt =
    elim (three i j) [
      | inl less ↦ let lower = rises rows i j d order less lt in omega (arith, lower)
      | inr rest ↦ elim rest [
        | inl e ↦ let same : number_in (get_or rows i d) ≡ number_in (get_or rows j d) = ap (λ (k : ℕ). number_in (get_or rows k d)) e in omega (arith, same)
        | inr more ↦ absurd (omega (arith, more, le))
      ]
    ]

-- the same of the connections that are open
pub none-open : (rows : List Row) (n : ℕ) → All (λ (r : Row). number_in r ≢ n) rows → All (λ (x : Inlet). x.number ≢ n) (current_of rows)
none-open rows n all =
    All-map (λ (x : Inlet). x.number ≢ n) current_in (filter (λ (r : Row). not r.closed) rows) (All-filter (λ (r : Row). not r.closed) (λ (r : Row). number_in r ≢ n) rows all)

-- what the search says of a place
abbrev pub Splits : List Row → ℕ → ℕ → Type 0
Splits rows n i = IsPartitionPoint (λ (r : Row). ltb (number_in r) n ≡ true) (λ (r : Row). ltb (number_in r) n ≡ false) rows i

pub none-past : (rows : List Row) (n i : ℕ) → Splits rows n i → length rows ≤ i → All (λ (r : Row). number_in r ≢ n) rows
none-past rows n i split le k d lt e =
    let lower = ltb-true (number_in (get_or rows k d)) n (split.0 k d (omega arith) (omega (arith, lt, le))) in
    absurd (omega (arith, lower, e))

pub none-there : (rows : List Row) (n i : ℕ) (x : Row) → AreInOrder rows → Splits rows n i → i < length rows → x ≡ get_or rows i x → number_in x ≢ n → All (λ (r : Row). number_in r ≢ n) rows
none-there rows n i x order split at_place at_it other k d lt e =
    elim (three k i) [
      | inl less ↦ let lower = ltb-true (number_in (get_or rows k d)) n (split.0 k d (omega arith) less) in absurd (omega (arith, lower, e))
      | inr rest ↦ elim rest [
        | inl same ↦ absurd (other (ap number_in at_it ∙ ap number_in (get_or_default rows i x d at_place) ∙ ap (λ (j : ℕ). number_in (get_or rows j d)) (sym same) ∙ e))
        | inr more ↦
            let lower = rises rows i k d order more lt in
            let not_less = ltb-false (number_in (get_or rows i d)) n (split.1 i d (omega arith) at_place) in
            absurd (omega (arith, lower, not_less, e))
      ]
    ]
