-- What holds of each element holds of each of one more.
use Rattle.std.proofs.Common.{◌≡◌, ◌+◌, zero, suc, List, [], ◌∷◌, ◌++◌, length, length-append, Contains, inl, inr, refl, sym, ap, ◌∙◌, arith, subst}
use Rattle.std.proofs.lemmas.List.Elements.{Contains-append_cases, Contains-append_right}

single : {Y : Type 0} (z y : Y) → Contains (z ∷ []) y → z ≡ y
single z y (zero, lt, is) = is
single z y (suc k, lt, is) = absurd (omega arith)

pub each_more : {X : Type 0} (P : X → Type 0) (xs ys : List X) (s : X)
    → ys ≡ xs ++ s ∷ [] → ((t : X) → Contains xs t → P t) → P s
    → (t : X) → Contains ys t → P t
each_more {X} P xs ys s is all one t c =
    let Q : List X → Type 0 = λ zs. Contains zs t in
    elim (Contains-append_cases xs (s ∷ []) t (subst Q is c))
    [ inl a ↦ all t a | inr b ↦ subst P (single s t b) one ]

-- one more makes a list longer by one
pub longer : {X : Type 0} (xs ys : List X) (x : X) → ys ≡ xs ++ x ∷ [] → length ys ≡ length xs + 1
longer {X} xs ys x is = ap (λ (l : List X). length l) is ∙ length-append xs (x ∷ [])

-- what comes next is one of all
pub next_among : {X : Type 0} (before rest all next : List X) (x : X)
    → before ++ rest ≡ all → rest ≡ x ∷ next → Contains all x
next_among {X} before rest all next x whole is =
    let P : List X → Type 0 = λ xs. Contains xs x in
    let Q : List X → Type 0 = λ xs. Contains (before ++ xs) x in
    let here : Contains (x ∷ next) x = (zero, omega arith, refl) in
    subst P whole (subst Q (sym is) (Contains-append_right before (x ∷ next) x here))
