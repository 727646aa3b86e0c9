-- A code that stands in no row has the status of its class.
use Rattle.std.proofs.Common.{◌≡◌, ℕ, ◌/◌, ◌%◌, List, [], ◌∷◌, Bool, true, false, refl, arith, map, Contains, ◌∙◌}
use Rattle.std.specs.Prelude.{◌==◌, ◌&&◌, if◌then◌else◌}
use Rattle.std.proofs.lemmas.List.Elements.{Contains-append_right}
use Rattle.code_map.specs.Codes.{Row, status_in, status_of, of_class, byte_of, recognised, table}

otherwise : {A : Type 0} (b : Bool) (x y : A) → (b ≡ true → ⊥) → (if b then x else y) ≡ y
otherwise true x y h = absurd (h refl)
otherwise false x y h = refl

byte_is : (code class detail : ℕ) → ((code / 32 == class) && (code % 32 == detail)) ≡ true → byte_of class detail ≡ code
byte_is code class detail h = grind (arith, h)

pub in_no_row : (rows : List Row) (code : ℕ) (has_body : Bool) → ¬ Contains (map (λ (r : Row). byte_of r.0 r.1) rows) code
    → status_in rows (code / 32) (code % 32) has_body ≡ of_class (code / 32) has_body
in_no_row [] code has_body other = refl
in_no_row (r ∷ rows) code has_body other =
    let front : ((code / 32 == r.0) && (code % 32 == r.1)) ≡ true → ⊥ =
    λ e. other (0, omega arith, byte_is code r.0 r.1 e) in
    otherwise _ _ _ front ∙ in_no_row rows code has_body (λ c. other (Contains-append_right (byte_of r.0 r.1 ∷ []) _ _ c))

pub by_class : (code : ℕ) (has_body : Bool) → ¬ Contains recognised code → status_of code has_body ≡ of_class (code / 32) has_body
by_class code has_body other = in_no_row table code has_body other

pub always : {A : Type 0} (b : Bool) (x : A) → x ≡ (if b then x else x)
always true x = refl
always false x = refl
