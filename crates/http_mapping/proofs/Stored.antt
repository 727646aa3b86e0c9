-- A transformer that is among those stored has its pair among theirs.
use Rattle.std.proofs.Common.{◌≡◌, List, ◌∷◌, ◌++◌, map, Option, Some, None, Result, Ok, Err, IsErrOf, IfSome, sym, ap, ◌∙◌, arith}
use Rattle.std.proofs.lemmas.List.{map-append}
use Rattle.std.proofs.lemmas.List.Elements.{Contains-append_right}
use Rattle.std.specs.List.{Contains}

pub stands : {S P : Type 0} (f : S → P) (stored before after : List S) (first : S) (pair : P) → stored ≡ before ++ first ∷ after → f first ≡ pair → Contains (map f stored) pair
stands f stored before after first pair parts same =
    rw (parts, map-append) (Contains-append_right (map f before) (map f (first ∷ after)) pair (0, omega arith, same))

pub some_not_none : {A E : Type 0} (r : Result (Option A) E) (o : Option A) (v : A) → r ≡ Ok o → o ≡ Some v → r ≡ Ok None → ⊥
some_not_none r o v is some none = let e = sym (is ∙ ap Ok some) ∙ none in absurd cc

pub err_not_none : {A E : Type 0} (r : Result (Option A) E) (f : E) → r ≡ Err f → r ≡ Ok None → ⊥
err_not_none r f is none = let e = sym is ∙ none in absurd cc

pub is_err_of : {A E : Type 0} (r : Result A E) (f fault : E) → r ≡ Err f → f ≡ fault → IsErrOf r fault
is_err_of r f fault is same = is ∙ ap Err same

pub some_holds : {A : Type 0} (P : A → Type 0) (o : Option A) (v : A) → o ≡ Some v → IfSome o P → P v
some_holds P o v is h = let t : IfSome (Some v) P = rw is at h in t
