-- What comes one after the other, put together.
use Rattle.std.proofs.Common.{◌≡◌, ◌∙◌, List, [], ◌∷◌, ◌++◌, Option, Some, None, sym, ap, subst}
use Rattle.std.specs.List.{flat_map}
use Rattle.std.proofs.lemmas.Grind.{flat_map-append}
use Rattle.std.proofs.lemmas.List.{append-nil, append_assoc}
use Rattle.sessions.specs.Devices.{Grown}

pub grown_none : {A : Type 0} (a : Option (List A)) → Grown a a []
grown_none None = tt
grown_none (Some x) = sym (append-nil x)

pub grown_join : {A : Type 0} (a b c : Option (List A)) (p q : List A) → Grown a b p → Grown b c q → Grown a c (p ++ q)
grown_join None b c p q g h = tt
grown_join (Some x) None c p q g h = absurd g
grown_join (Some x) (Some y) None p q g h = absurd h
grown_join {A = A} (Some x) (Some y) (Some z) p q g h = h ∙ ap (λ (s : List A). s ++ q) g ∙ append_assoc x p q

-- nothing more came
pub grown_still : {A : Type 0} (a b c : Option (List A)) (p : List A) → Grown a b p → Grown b c [] → Grown a c p
grown_still a b c p g h = subst (Grown a c) (append-nil p) (grown_join a b c p [] g h)

-- what one more brings comes last
pub flat_map-more : {A B : Type 0} (f : A → List B) (xs : List A) (y : A) → flat_map f (xs ++ y ∷ []) ≡ flat_map f xs ++ f y
flat_map-more {B = B} f xs y = flat_map-append f xs (y ∷ []) ∙ ap (λ (ys : List B). flat_map f xs ++ ys) (append-nil (f y))
