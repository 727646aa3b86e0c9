-- A route that is found is among those listed.
use Rattle.std.proofs.Common.{◌≡◌, ℕ, List, Option, Some, None, inl, inr}
use Rattle.std.proofs.lemmas.Bool.{cases_Bool}
use Rattle.std.specs.List.{Contains}
use Rattle.history_laws.proofs.CallerLemmas.{find-some}
use Rattle.media_map.specs.declared.form.Form.{Form}
use Rattle.media_map.specs.MediaTypes.{Named, media_at}
use Rattle.media_map.specs.Accepting.{route_at, route_in, is_itself, is_from}

same_pair : {X : Type 0} (x y : X) → Some x ≡ Some y → x ≡ y
same_pair x y e = cc

in_routes : (routes : List (Form × Form)) (m : Option Named) (pair : Form × Form) → route_in routes m ≡ Some pair → Contains routes pair
in_routes routes None pair e = absurd cc
in_routes routes (Some m) pair e =
    elim (cases_Bool (is_itself m)) [
      | inl t ↦ (find-some (λ (x : Form × Form). is_from m x.0 x.1) routes pair (rw t at e)).0
      | inr f ↦ let none : None ≡ Some pair = rw f at e in absurd cc
    ]

pub route_stands : (routes : List (Form × Form)) (text : List ℕ) (pair : Form × Form) → route_at routes text ≡ Some pair → Contains routes pair
unfolding route_at
route_stands routes text pair e = in_routes routes (media_at text) pair e
