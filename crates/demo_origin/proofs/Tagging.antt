-- Who is told that a state is valid has named it.
use Rattle.std.proofs.Common.{◌≡◌, ℕ, zero, suc, List, [], ◌∷◌, Contains, Option, Bool, true, false, ◌||◌, refl, arith}
use Rattle.std.specs.Int.{to_be_bytes, w64}
use Rattle.std.specs.List.{list_any}
use Rattle.std.specs.Str.{bytes_eq}
use Rattle.std.proofs.lemmas.Bool.{and_parts}
use Rattle.std.proofs.lemmas.Slice.Eq.{bytes_eq-Decides}
use Rattle.coap_codec.specs.declared.block.Block.{Block}
use Rattle.demo_origin.specs.Tags.{has_tag, is_opening, is_valid}

-- the first is equal, or one of the others
first_or : (b : Bool) (v tag : List ℕ) (vs : List (List ℕ)) → (b ≡ true → v ≡ tag)
    → (list_any (λ (x : List ℕ). bytes_eq x tag) vs ≡ true → Contains vs tag)
    → (b || list_any (λ (x : List ℕ). bytes_eq x tag) vs) ≡ true → Contains (v ∷ vs) tag
first_or true v tag vs here more e = (zero, omega arith, here refl)
first_or false v tag vs here more e =
    let c = more e in (suc c.0, omega (arith, c.1), c.2)

among : (tag : List ℕ) (vs : List (List ℕ))
    → list_any (λ (x : List ℕ). bytes_eq x tag) vs ≡ true → Contains vs tag
among tag [] e = absurd cc
among tag (v ∷ vs) e =
    first_or (bytes_eq v tag) v tag vs (λ t. (bytes_eq-Decides v tag).0 t)
    (λ t. among tag vs t) e

pub tag_among : (tags : List (List ℕ)) (named : Option Block) (version : ℕ)
    → is_valid tags named version ≡ true → Contains tags (to_be_bytes w64 version)
tag_among tags named version e =
    among (to_be_bytes w64 version) tags
    (and_parts (is_opening named) (has_tag version tags) e).1
