-- What the look-up of a name finds has that name.
use Rattle.std.proofs.Common.{◌≡◌, ℕ, List, [], ◌∷◌, Bool, true, false, refl, Option, Some, subst}
use Rattle.std.specs.Prelude.{if◌then◌else◌}
use Rattle.std.specs.Str.{bytes_eq}
use Rattle.std.proofs.lemmas.Slice.Eq.{bytes_eq-Decides}
use Rattle.code_map.specs.declared.method.Method.{Method}
use Rattle.code_map.specs.Methods.{named_in, name_of}

same_method : (m n : Method) → Some m ≡ Some n → m ≡ n
same_method m n e = cc

first_or_later : (b : Bool) (name : List ℕ) (m n : Method) (others : Option Method) → (b ≡ true → name ≡ name_of m)
    → (others ≡ Some n → name ≡ name_of n) → (if b then Some m else others) ≡ Some n → name ≡ name_of n
first_or_later true name m n others first later e = subst (λ (x : Method). name ≡ name_of x) (same_method m n e) (first refl)
first_or_later false name m n others first later e = later e

pub has_the_name : (methods : List Method) (name : List ℕ) (m : Method) → named_in methods name ≡ Some m → name ≡ name_of m
has_the_name [] name m e = absurd cc
has_the_name (x ∷ methods) name m e =
    first_or_later (bytes_eq name (name_of x)) name x m (named_in methods name) (bytes_eq-Decides name (name_of x)).0 (has_the_name methods name m) e
