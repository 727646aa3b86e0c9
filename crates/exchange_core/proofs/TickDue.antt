-- The earliest of several moments; and each exchange was opened at a moment of the core's.
use Rattle.std.proofs.Common.{◌≡◌, ℕ, suc, zero, ◌+◌, ◌<◌, min, List, [], ◌∷◌, length, drop, get_or, Option, Some, None, refl, sym, ap, ◌∙◌, arith}
use Rattle.exchange_model.specs.Due.{earlier}

pub earlier-assoc : (a b c : Option ℕ) → earlier (earlier a b) c ≡ earlier a (earlier b c)
earlier-assoc None b c = refl
earlier-assoc (Some a) None c = refl
earlier-assoc (Some a) (Some b) None = refl
earlier-assoc (Some a) (Some b) (Some c) = let e : min (min a b) c ≡ min a (min b c) = omega
    arith in ap (λ (k : ℕ). Some k) e

-- one more element
pub drop-at : {X : Type 0} (xs : List X) (i : ℕ) (x : X) → i < length xs → x ≡ get_or xs i x
    → drop i xs ≡ x ∷ drop (i + 1) xs
drop-at [] i x lt is = absurd (omega (arith, lt))
drop-at (y ∷ ys) zero x lt is = ap (λ z. z ∷ ys) (sym is)
drop-at (y ∷ ys) (suc i) x lt is =
    let e : suc i + 1 ≡ suc (i + 1) = omega arith in
    drop-at ys i x (omega (arith, lt)) is ∙ ap (λ (k : ℕ). x ∷ drop k (y ∷ ys)) (sym e)
