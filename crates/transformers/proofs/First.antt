-- The first element of a list with a pair, and what holds of each element.
use Rattle.std.proofs.Common.{◌≡◌, ℕ, zero, suc, ◌+◌, ◌<◌, ◌≤◌, List, [], ◌∷◌, ◌++◌, length, map, take, drop, get_or, Contains, inl, inr, refl, arith, subst, sym, ◌∙◌, ap}
use Rattle.std.proofs.lemmas.List.{map_more, take_all}
use Rattle.std.proofs.lemmas.List.Elements.{Contains-append_cases, Contains-append_right}

single : {Y : Type 0} (z y : Y) → Contains (z ∷ []) y → z ≡ y
single z y (zero, lt, is) = is
single z y (suc k, lt, is) = absurd (omega arith)

-- what isn't among the first i isn't among one more, where the next is another
pub absent_more : {X Y : Type 0} (f : X → Y) (xs : List X) (i : ℕ) (x : X) (y : Y) → i < length xs → x ≡ get_or xs i x
    → ¬ (f x ≡ y) → ¬ Contains (map f (take i xs)) y → ¬ Contains (map f (take (i + 1) xs)) y
absent_more {X} {Y} f xs i x y lt is other none c =
    let P : List Y → Type 0 = λ ys. Contains ys y in
    let d : Contains (map f (take i xs) ++ f (get_or xs i x) ∷ []) y = subst P (map_more f xs i x lt) c in
    elim (Contains-append_cases (map f (take i xs)) (f (get_or xs i x) ∷ []) y d) [ inl a ↦ none a | inr b ↦ other (ap f is ∙ single (f (get_or xs i x)) y b) ]

-- and what isn't among all of them isn't there
pub absent_all : {X Y : Type 0} (f : X → Y) (xs ys : List X) (i : ℕ) (y : Y) → length xs ≤ i → xs ≡ ys
    → ¬ Contains (map f (take i xs)) y → ¬ Contains (map f ys) y
absent_all {X} {Y} f xs ys i y all is none c =
    let P : List X → Type 0 = λ zs. Contains (map f zs) y in
    none (subst P (sym is ∙ sym (take_all i xs all)) c)

-- what holds of each holds of each of one more
pub each_more : {X : Type 0} (P : X → Type 0) (xs ys : List X) (s : X) → ys ≡ xs ++ s ∷ [] → ((t : X) → Contains xs t → P t) → P s
    → (t : X) → Contains ys t → P t
each_more {X} P xs ys s is all one t c =
    let Q : List X → Type 0 = λ zs. Contains zs t in
    elim (Contains-append_cases xs (s ∷ []) t (subst Q is c)) [ inl a ↦ all t a | inr b ↦ subst P (single s t b) one ]

-- a list around one of its elements
around : {X : Type 0} (xs : List X) (i : ℕ) (x : X) → i < length xs → x ≡ get_or xs i x → xs ≡ take i xs ++ x ∷ drop (suc i) xs
around [] i x lt is = absurd (omega arith)
around (y ∷ ys) zero x lt is = ap (λ z. z ∷ ys) (sym is)
around (y ∷ ys) (suc i) x lt is = ap (λ zs. y ∷ zs) (around ys i x (omega arith) is)

pub parts_at : {X : Type 0} (xs ys : List X) (i : ℕ) (x : X) → i < length xs → x ≡ get_or xs i x → xs ≡ ys → ys ≡ take i xs ++ x ∷ drop (suc i) xs
parts_at xs ys i x lt is same = sym same ∙ around xs i x lt is

-- an element between two parts is in the whole
pub among : {X : Type 0} (xs before after : List X) (x : X) → xs ≡ before ++ x ∷ after → Contains xs x
among {X} xs before after x parts =
    let front : Contains (x ∷ after) x = (0, omega arith, refl) in
    let P : List X → Type 0 = λ ys. Contains ys x in
    subst P (sym parts) (Contains-append_right before (x ∷ after) x front)
