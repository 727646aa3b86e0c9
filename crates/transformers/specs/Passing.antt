-- How a pass over an item goes that keeps no value of it.
use Rattle.std.specs.Prelude.{◌≡◌, ℕ, List, Bool, true, false, Option, Some, None}

-- If something is read, the pass ends behind it. If nothing is, a pass that compares keys stops,
-- and another one may go on.
abbrev pub IsBehind : {A : Type 0} → Bool → Option (A × List ℕ) → Option (List ℕ) → Type 0
IsBehind compared (Some x) rest = rest ≡ Some x.1
IsBehind true None rest = rest ≡ None
IsBehind false None rest = Unit {0}
