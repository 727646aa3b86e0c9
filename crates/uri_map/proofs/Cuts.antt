-- A text cut after a front that has no byte of the kind.
use Rattle.std.proofs.Common.{◌≡◌, ℕ, Bool, true, false, List, [], ◌∷◌, ◌++◌, length, refl, arith, All}
use Rattle.std.specs.List.{position_or_len, before_first}
use Rattle.std.proofs.lemmas.List.Elements.{All-head, All-tail}
use Rattle.std.proofs.Math.Seq.{take-append_seam, drop-append_seam}
use Rattle.uri_map.specs.Splitting.{from_first}

-- the text is empty, or its first byte passes p
abbrev pub Ends : (ℕ → Bool) → List ℕ → Type 0
Ends p [] = Unit {0}
Ends p (y ∷ ys) = p y ≡ true

abbrev pub Fails : (ℕ → Bool) → ℕ → Type 0
Fails p b = p b ≡ false

pub place_of : (p : ℕ → Bool) (xs ys : List ℕ) → All (Fails p) xs → Ends p ys → position_or_len p (xs ++ ys) ≡ length xs
place_of p [] [] all ends = refl
place_of p [] (y ∷ ys) all ends = rw ends refl
place_of p (x ∷ xs) ys all ends =
    let first : p x ≡ false = All-head (Fails p) x xs all in
    let others = place_of p xs ys (All-tail (Fails p) x xs all) ends in
    rw first (omega (arith, others))

pub front_cut : (p : ℕ → Bool) (xs ys : List ℕ) → All (Fails p) xs → Ends p ys → before_first p (xs ++ ys) ≡ xs
front_cut p xs ys all ends = rw (place_of p xs ys all ends) (take-append_seam xs ys)

pub rest_cut : (p : ℕ → Bool) (xs ys : List ℕ) → All (Fails p) xs → Ends p ys → from_first p (xs ++ ys) ≡ ys
rest_cut p xs ys all ends = rw (place_of p xs ys all ends) (drop-append_seam xs ys)
