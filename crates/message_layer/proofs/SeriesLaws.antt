-- What is left of two lists, one after the other.
use Rattle.std.proofs.Common.{◌≡◌, ℕ, suc, zero, ◌-◌, List, [], ◌∷◌, ◌++◌, length, drop, ◌∙◌, ap, arith}

pub drop-both : {A : Type 0} (n : ℕ) (xs ys : List A)
    → drop n (xs ++ ys) ≡ drop n xs ++ drop (n - length xs) ys
drop-both zero xs ys = let none : zero ≡ zero - length xs = omega arith in ap (λ (m : ℕ). xs ++ drop m ys) none
drop-both (suc n) [] ys = let same : suc n ≡ suc n - 0 = omega arith in ap (λ (m : ℕ). drop m ys) same
drop-both (suc n) (x ∷ xs) ys =
    let same : n - length xs ≡ suc n - suc (length xs) = omega arith in
    drop-both n xs ys ∙ ap (λ (m : ℕ). drop n xs ++ drop m ys) same
