-- Of those with equal names the first counts.
use Rattle.std.specs.Prelude.{ℕ, Bool, not, List, [], ◌∷◌}
use Rattle.std.specs.List.{filter}
use Rattle.std.specs.Str.{bytes_eq}

abbrev pub has_other_name : {A : Type 0} → (A → List ℕ) → A → A → Bool
has_other_name name x y = not (bytes_eq (name x) (name y))

-- After each stand only those with another name.
abbrev pub firsts : {A : Type 0} → (A → List ℕ) → List A → List A
firsts name [] = []
firsts name (x ∷ xs) = x ∷ filter (has_other_name name x) (firsts name xs)
