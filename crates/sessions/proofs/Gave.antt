-- What reads gave, one more of them each time.
use Rattle.std.proofs.Common.{◌≡◌, ◌∙◌, ℕ, ◌+◌, ◌-◌, ◌≤◌, ◌<◌, min, List, [], ◌∷◌, ◌++◌, length, take, arith, sym, ap}
use Rattle.std.specs.List.{AllByRecursion, concat}
use Rattle.std.proofs.lemmas.List.{append-nil, length-take-le, take_all}
use Rattle.std.proofs.lemmas.List.Folds.{concat-append}
use Rattle.sessions.specs.Asking.{IsFilled, EndOnce}

pub concat_more : (reads : List (List ℕ)) (bytes : List ℕ) → concat (reads ++ bytes ∷ []) ≡ concat reads ++ bytes
concat_more reads bytes = concat-append reads (bytes ∷ []) ∙ ap (λ (text : List ℕ). concat reads ++ text) (append-nil bytes)

-- The end adds nothing to the text.
pub concat_ended : (reads : List (List ℕ)) → concat (reads ++ [] ∷ []) ≡ concat reads
concat_ended reads = concat_more reads [] ∙ append-nil (concat reads)

pub filled_more : (reads : List (List ℕ)) (bytes : List ℕ) → AllByRecursion IsFilled reads → IsFilled bytes → AllByRecursion IsFilled (reads ++ bytes ∷ [])
filled_more [] bytes f one = (one, tt)
filled_more (r ∷ reads) bytes f one = (f.0, filled_more reads bytes f.1 one)

-- None of them met the end.
pub once_filled : (reads : List (List ℕ)) → AllByRecursion IsFilled reads → EndOnce reads
once_filled [] f = tt
once_filled (r ∷ []) f = tt
once_filled (r ∷ s ∷ reads) f = (f.0, once_filled (s ∷ reads) f.1)

-- The last did.
pub once_ended : (reads : List (List ℕ)) → AllByRecursion IsFilled reads → EndOnce (reads ++ [] ∷ [])
once_ended [] f = tt
once_ended (r ∷ []) f = (f.0, tt)
once_ended (r ∷ s ∷ reads) f = (f.0, once_ended (s ∷ reads) f.1)

-- All that fits is taken.
pub all_taken : (b : List ℕ) (n r u : ℕ) → n ≤ length b → n + u ≤ 8192 → r ≡ min (length (take n b)) (8192 - u) → take n b ≡ take r (take n b)
all_taken b n r u fits room e =
    let long : length (take n b) ≡ n = length-take-le n b fits in
    let same : r ≡ n = omega arith in
    sym (take_all r (take n b) (omega arith))

pub taken_filled : (b : List ℕ) (n : ℕ) → n ≤ length b → 0 < n → IsFilled (take n b)
taken_filled b n fits some none =
    let long : length (take n b) ≡ n = length-take-le n b fits in
    let short : length (take n b) ≡ 0 = ap length none in
    absurd (omega arith)

pub taken_none : (b : List ℕ) (n : ℕ) → n ≡ 0 → take n b ≡ []
taken_none b n e = ap (λ (k : ℕ). take k b) e
