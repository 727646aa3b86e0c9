-- Nothing need be kept of places that nobody has, before those of the others.
use Rattle.std.proofs.Common.{◌≡◌, ℕ, ◌+◌, ◌-◌, List, ◌++◌, length, take, drop, Option, None, sym, ap, ◌∙◌, arith, length-drop}
use Rattle.std.proofs.lemmas.List.{append_assoc, replicate-append-replicate, take-append-drop, take-append-le, take_all}
use Rattle.gateway_loop.specs.Places.{empty_places}

module _ {A : Type 0} where
  kept-all : (k : ℕ) (xs ys : List A) → take (length xs - k) (drop k xs ++ ys) ≡ drop k xs
  kept-all k xs ys =
      take-append-le (length xs - k) (drop k xs) ys (rw length-drop (omega arith))
      ∙ take_all (length xs - k) (drop k xs) (rw length-drop (omega arith))

-- the first so many come last, and are cut off
pub let-go : {A : Type 0} (f k n : ℕ) (xs turned ys : List (Option A)) → take k xs ≡ empty_places k
    → turned ≡ drop k xs ++ take k xs → ys ≡ take (length xs - k) turned → n ≡ f + k
    → empty_places n ++ ys ≡ empty_places f ++ xs
let-go {A} f k n xs turned ys e t q m =
    let rest : ys ≡ drop k xs = q ∙ (ap (take (length xs - k)) t ∙ kept-all k xs (take k xs)) in
    ap (λ (j : ℕ). empty_places j ++ ys) m
    ∙ (ap (λ (zs : List (Option A)). empty_places (f + k) ++ zs) rest
    ∙ (ap (λ (zs : List (Option A)). zs ++ drop k xs) (sym (replicate-append-replicate f k None))
    ∙ (append_assoc (empty_places f) (empty_places k) (drop k xs)
    ∙ ap (λ (zs : List (Option A)). empty_places f ++ zs)
    (ap (λ (zs : List (Option A)). zs ++ drop k xs) (sym e) ∙ take-append-drop k xs))))
