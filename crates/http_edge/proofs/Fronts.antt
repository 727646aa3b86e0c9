-- Fronts of lists.
use Rattle.std.proofs.Common.{◌≡◌, ℕ, ◌≤◌, ◌+◌, ◌-◌, List, [], ◌∷◌, ◌++◌, length, take, refl, ap, ◌∙◌, arith}
use Rattle.std.proofs.Math.Seq.{take-append-add}

-- a front that is no longer than what is taken is taken whole
pub take_behind : (n : ℕ) (front rest : List ℕ) → length front ≤ n → take n (front ++ rest) ≡ front ++ take (n - length front) rest
take_behind n front rest le =
    let e : n ≡ length front + (n - length front) = omega (arith, le) in
    ap (λ (m : ℕ). take m (front ++ rest)) e ∙ take-append-add front rest (n - length front)

pub same_length : (a b x y : List ℕ) → length a ≡ length b → a ++ x ≡ b ++ y → (a ≡ b) × (x ≡ y)
same_length [] [] x y l e = (refl, e)
same_length [] (d ∷ b) x y l e = absurd (omega (arith, l))
same_length (c ∷ a) [] x y l e = absurd (omega (arith, l))
same_length (c ∷ a) (d ∷ b) x y l e =
    let heads : c ≡ d = cc in
    let tails : a ++ x ≡ b ++ y = cc in
    let n : length a ≡ length b = omega (arith, l) in
    let s = same_length a b x y n tails in
    (rw (heads, s.0) refl, s.1)
