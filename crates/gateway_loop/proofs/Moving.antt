-- The first bytes of what is left, and what is left then.
use Rattle.std.proofs.Common.{◌≡◌, ◌-◌, ◌+◌, ℕ, List, ◌++◌, length, take, drop, sym, ap, subst, ◌∙◌, arith, length-drop}
use Rattle.std.proofs.lemmas.List.{drop-drop, take-append-drop, take_all}

split_left : (g n : ℕ) (xs : List ℕ) → drop g xs ≡ take n (drop g xs) ++ drop (g + n) xs
split_left g n xs =
    sym (ap (λ (t : List ℕ). take n (drop g xs) ++ t) (sym (drop-drop n g xs)) ∙ take-append-drop n (drop g xs))

rest_is : (g : ℕ) (xs : List ℕ) → take (length xs - g) (drop g xs) ≡ drop g xs
rest_is g xs = take_all (length xs - g) (drop g xs) (rw length-drop (omega arith))

-- as code writes what is left
pub split_rest : (g n : ℕ) (xs ys : List ℕ) → xs ≡ ys
    → drop g ys ≡ take n (take (length xs - g) (drop g xs)) ++ drop (g + n) ys
split_rest g n xs ys e =
    subst (λ (zs : List ℕ). drop g zs ≡ take n (take (length xs - g) (drop g xs)) ++ drop (g + n) zs) e
    (split_left g n xs ∙ ap (λ (t : List ℕ). take n t ++ drop (g + n) xs) (sym (rest_is g xs)))
