-- The entries from a number on.
use Rattle.std.proofs.Common.{◌≡◌, ℕ, zero, suc, ◌+◌, ◌-◌, ◌≤◌, List, [], ◌∷◌, ◌++◌, drop, take, Some, slice_get, refl, ap, ◌∙◌, arith}
use Rattle.journal_book.specs.Entries.{Written}
use Rattle.journal_book.proofs.Filled.{first-more}

later : (h : List Written) (from k : ℕ) → slice_get (drop from h) k ≡ slice_get h (from + k)
later h zero k = let e : k ≡ 0 + k = omega arith in ap (λ (n : ℕ). slice_get h n) e
later [] (suc from) k = refl
later (w ∷ ws) (suc from) k =
    let e : suc (from + k) ≡ suc from + k = omega arith in
    later ws from k ∙ ap (λ (n : ℕ). slice_get (w ∷ ws) n) e

-- one more of them
pub later-more : (h : List Written) (from n : ℕ) (w : Written) → from ≤ n → slice_get h n ≡ Some w
    → take (n + 1 - from) (drop from h) ≡ take (n - from) (drop from h) ++ w ∷ []
later-more h from n w le e =
    let count : n + 1 - from ≡ n - from + 1 = omega arith in
    let place : from + (n - from) ≡ n = omega arith in
    ap (λ (k : ℕ). take k (drop from h)) count
    ∙ first-more (drop from h) (n - from) w
    (later h from (n - from) ∙ ap (λ (k : ℕ). slice_get h k) place ∙ e)
