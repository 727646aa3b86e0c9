-- A resource that is put back leaves the list as it was.
use Rattle.std.proofs.Common.{◌≡◌, ℕ, zero, suc, ◌<◌, Bool, List, [], ◌∷◌, length, set, get_or, refl, ap, ◌∙◌}
use Rattle.std.proofs.lemmas.List.{set-get_or, get_or-set_same}
use Rattle.demo_origin.specs.Hearing.{stated}
use Rattle.demo_origin.specs.declared.state.Held.{Held}

set_twice : {X : Type 0} (xs : List X) (i : ℕ) (a b : X) → set (set xs i a) i b ≡ set xs i b
set_twice [] i a b = refl
set_twice (x ∷ xs) zero a b = refl
set_twice {X} (x ∷ xs) (suc i) a b = ap (λ (ys : List X). x ∷ ys) (set_twice xs i a b)

pub put_back : (xs ys : List Held) (i : ℕ) (changed : Bool) (after : List ℕ)
    (h a now back : Held) (state : List ℕ) (version : ℕ) → i < length xs → h ≡ get_or xs i h
    → a ≡ stated h changed after → ys ≡ set xs i a → now ≡ get_or ys i now
    → state ≡ h.state → version ≡ h.version
    → back ≡ record now { state = state; version = version } → set ys i back ≡ xs
put_back xs ys i changed after h a now back state version lt here changes ys_are there s v put =
    let at : get_or ys i now ≡ a =
    ap (λ (l : List Held). get_or l i now) ys_are ∙ get_or-set_same xs i a now lt in
    let was : now ≡ stated h changed after = there ∙ at ∙ changes in
    let is : back ≡ h =
    put ∙ ap (λ (x : Held). record x { state = state; version = version }) was
    ∙ ap (λ (x : List ℕ). record h { state = x; version = version }) s
    ∙ ap (λ (x : ℕ). record h { version = x }) v in
    ap (λ (l : List Held). set l i back) ys_are ∙ set_twice xs i a back
    ∙ ap (λ (x : Held). set xs i x) (is ∙ here) ∙ set-get_or xs i h
