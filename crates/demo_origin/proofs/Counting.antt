-- The digits of a counter, one after another.
use Rattle.std.proofs.Common.{◌≡◌, ℕ, zero, suc, ◌+◌, ◌-◌, ◌*◌, ◌<◌, List, [], ◌∷◌, length, drop, get_or, Option, Some, None, Bool, true, false, cond, nat_le, ◌&&◌, refl, sym, ap, ◌∙◌, arith}
use Rattle.demo_origin.specs.Kinds.{counted_from}

pub digit_taken : (n c k : ℕ) (cs : List ℕ) → counted_from n (c ∷ []) ≡ Some k
    → counted_from n (c ∷ cs) ≡ counted_from k cs
digit_taken n c k cs e =
    let v = 10 * n + (c - 48) in
    let test = (nat_le 48 c && nat_le c 57) && nat_le v 18446744073709551615 in
    let P : Bool → Type 0 = λ b.
    cond b (Some v) None ≡ Some k → cond b (counted_from v cs) None ≡ counted_from k cs in
    let each : (b : Bool) → P b = λ b. elim b as P [
      | true ↦ λ h. (let same : v ≡ k = cc in ap (λ (x : ℕ). counted_from x cs) same)
      | false ↦ λ h. cc
    ] in
    each test e

pub at_place : (xs : List ℕ) (i : ℕ) → i < length xs
    → drop i xs ≡ get_or xs i 0 ∷ drop (suc i) xs
at_place [] i lt = absurd (omega arith)
at_place (x ∷ xs) zero lt = refl
at_place (x ∷ xs) (suc i) lt = at_place xs i (omega arith)

pub goes_on : (n k i : ℕ) (xs : List ℕ) (total : Option ℕ) → i < length xs
    → counted_from n (get_or xs i 0 ∷ []) ≡ Some k → counted_from n (drop i xs) ≡ total
    → counted_from k (drop (suc i) xs) ≡ total
goes_on n k i xs total lt e h =
    sym (digit_taken n (get_or xs i 0) k (drop (suc i) xs) e)
    ∙ ap (λ (ys : List ℕ). counted_from n ys) (sym (at_place xs i lt)) ∙ h
