-- Pieces of one exchange that can be read.
use Rattle.std.proofs.Common.{◌≡◌, ℕ, zero, suc, ◌<◌, Bool, true, false, cond, List, [], ◌∷◌, length, get_or, refl, sym, ap, ◌∙◌, arith}
use Rattle.std.specs.Prelude.{filter}
use Rattle.std.specs.List.{AllByRecursion}
use Rattle.std.proofs.lemmas.Bool.{false≢true}

-- what holds of those that pass holds of one that passes
pub passed-at : {X : Type 0} (P : X → Type 0) (q : X → Bool) (xs : List X) (i : ℕ) (d : X)
    → AllByRecursion P (filter q xs) → i < length xs → q (get_or xs i d) ≡ true
    → P (get_or xs i d)
passed-at P q [] i d a lt so = absurd (omega (arith, lt))
passed-at {X = X} P q (x ∷ xs) zero d a lt so = by (q x) so a
  where
    by : (b : Bool) → b ≡ true → AllByRecursion P (cond b (x ∷ filter q xs) (filter q xs)) → P x
    by true e h = h.0
    by false e h = absurd (false≢true e)
passed-at {X = X} P q (x ∷ xs) (suc i) d a lt so =
    passed-at P q xs i d (by (q x) a) (omega (arith, lt)) so
  where
    by : (b : Bool) → AllByRecursion P (cond b (x ∷ filter q xs) (filter q xs))
        → AllByRecursion P (filter q xs)
    by true h = h.1
    by false h = h
