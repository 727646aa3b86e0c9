-- Pieces taken off the front of what is left.
use Rattle.std.proofs.Common.{◌≡◌, ℕ, ◌+◌, ◌-◌, ◌<◌, ◌≤◌, ◌==◌, false, List, [], ◌∷◌, length, take, drop, arith}
use Rattle.std.specs.List.{slice_split, position_or_len}
use Rattle.std.proofs.lemmas.List.Splits.{slice_split_first, slice_split_none}
use Rattle.std.proofs.lemmas.List.Sums.{fails_before_first}
use Rattle.std.proofs.lemmas.List.Elements.{All-from_get_or}
use Rattle.std.proofs.lemmas.List.{length-drop, take_all}

pub first_piece : (s n : ℕ) (text : List ℕ) → n ≡ position_or_len (λ b. b == s) text → n < length text → slice_split (λ b. b == s) text ≡ take n text ∷ slice_split (λ b. b == s) (take (length text - (n + 1)) (drop (n + 1) text))
first_piece s n text e lt =
    let front = slice_split_first (λ b. b == s) text 0 (omega (arith, e, lt)) in
    let all : take (length text - (n + 1)) (drop (n + 1) text) ≡ drop (n + 1) text = take_all _ _ (omega (arith, length-drop (n + 1) text)) in
    rw (all, e) front

pub last_piece : (s n : ℕ) (text : List ℕ) → n ≡ position_or_len (λ b. b == s) text → length text ≤ n → slice_split (λ b. b == s) text ≡ text ∷ []
last_piece s n text e le =
    slice_split_none (λ b. b == s) text (All-from_get_or (λ b. (b == s) ≡ false) text 0 (λ k h. fails_before_first (λ b. b == s) text k 0 (omega (arith, e))))
