-- A media type is what its pieces say.
use Rattle.std.proofs.Common.{◌≡◌, refl, ℕ, List, ◌∷◌, Bool, true, false, Some, None}
use Rattle.std.specs.List.{list_all}
use Rattle.std.specs.Prelude.{◌&&◌}
use Rattle.media_map.specs.Texts.{pieces, trim}
use Rattle.media_map.specs.MediaTypes.{media_at, is_essence, is_parameter}

pub is_named : (text first essence : List ℕ) (others : List (List ℕ)) → pieces true 59 text ≡ first ∷ others → essence ≡ trim first
    → is_essence essence ≡ true → list_all is_parameter others ≡ true → media_at text ≡ Some (record { essence = essence; parameters = others })
unfolding media_at
is_named text first essence others parts e good all = rw (parts, ← e, good, all) refl

pub is_not_named : (text first essence : List ℕ) (others : List (List ℕ)) → pieces true 59 text ≡ first ∷ others → essence ≡ trim first
    → (is_essence essence && list_all is_parameter others) ≡ false → media_at text ≡ None
unfolding media_at
is_not_named text first essence others parts e bad = rw (parts, ← e, bad) refl

pub first_false : (a b : Bool) → a ≡ false → (a && b) ≡ false
first_false true b e = absurd cc
first_false false b e = refl

pub second_false : (a b : Bool) → b ≡ false → (a && b) ≡ false
second_false true b e = e
second_false false b e = refl
