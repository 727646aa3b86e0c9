-- Lists that are searched, filtered and cut.
use Rattle.std.proofs.Common.{◌≡◌, ℕ, suc, zero, ◌<◌, ◌≤◌, List, [], ◌∷◌, ◌++◌, length, filter, Bool, true, false, not, ◌&&◌, ◌||◌, cond, Some, None, refl, ap, sym, ◌∙◌, take, drop, arith}
use Rattle.std.specs.List.{find, list_any, list_all}
use Rattle.std.proofs.lemmas.Bool.{and_parts, and_from}

pub is_false : (b : Bool) → (b ≡ true → ⊥) → b ≡ false
is_false true h = absurd (h refl)
is_false false h = refl

pub or_false : (a b : Bool) → (a || b) ≡ false → (a ≡ false) × (b ≡ false)
or_false true b e = cc
or_false false b e = (refl, e)

-- what is found passes
found_by : {X : Type 0} (p : X → Bool) (x : X) (xs : List X) (r : X) (b : Bool) → p x ≡ b → (find p xs ≡ Some r → p r ≡ true) → cond b (Some x) (find p xs) ≡ Some r → p r ≡ true
found_by p x xs r true e later at =
    let same : x ≡ r = cc in
    ap p (sym same) ∙ e
found_by p x xs r false e later at = later at

pub found : {X : Type 0} (p : X → Bool) (xs : List X) (r : X) → find p xs ≡ Some r → p r ≡ true
found p [] r at = cc
found p (x ∷ xs) r at = found_by p x xs r (p x) refl (found p xs r) at

pub find-nothing : {X : Type 0} (p : X → Bool) (xs : List X) → list_any p xs ≡ false → find p xs ≡ None
find-nothing p [] e = refl
find-nothing p (x ∷ xs) e =
    let c = or_false (p x) (list_any p xs) e in
    rw c.0 (find-nothing p xs c.1)

-- where nothing else passes, only this one can be found
pub find-only : {X : Type 0} (p : X → Bool) (front : List X) (x : X) (back : List X) → list_any p front ≡ false → list_any p back ≡ false → find p (front ++ x ∷ back) ≡ cond (p x) (Some x) None
find-only p [] x back a b = rw (find-nothing p back b) refl
find-only p (y ∷ front) x back a b =
    let c = or_false (p y) (list_any p front) a in
    rw c.0 (find-only p front x back c.1 b)

pub length-filtered : {X : Type 0} (p : X → Bool) (xs : List X) → length (filter p xs) ≤ length xs
length-filtered p [] = omega arith
length-filtered p (x ∷ xs) = elim (p x) as (λ b. length (cond b (x ∷ filter p xs) (filter p xs)) ≤ length (x ∷ xs)) [ true ↦ omega (arith, length-filtered p xs) | false ↦ omega (arith, length-filtered p xs) ]

pub none_dropped : {X : Type 0} (p : X → Bool) (xs : List X) → list_any p xs ≡ false → filter (λ x. not (p x)) xs ≡ xs
none_dropped p [] e = refl
none_dropped p (x ∷ xs) e =
    let c = or_false (p x) (list_any p xs) e in
    rw (c.0, none_dropped p xs c.1) refl

-- Where one passes, fewer are left.
fewer_by : {X : Type 0} (p : X → Bool) (x : X) (xs : List X) (b : Bool) → (list_any p xs ≡ true → length (filter (λ y. not (p y)) xs) < length xs) → (b || list_any p xs) ≡ true → length (cond (not b) (x ∷ filter (λ y. not (p y)) xs) (filter (λ y. not (p y)) xs)) < length (x ∷ xs)
fewer_by p x xs true later any = omega (arith, length-filtered (λ y. not (p y)) xs)
fewer_by p x xs false later any = omega (arith, later any)

pub fewer : {X : Type 0} (p : X → Bool) (xs : List X) → list_any p xs ≡ true → length (filter (λ x. not (p x)) xs) < length xs
fewer p [] any = cc
fewer p (x ∷ xs) any = fewer_by p x xs (p x) (fewer p xs) any

pub none_filtered : {X : Type 0} (p f : X → Bool) (xs : List X) → list_any p xs ≡ false → list_any p (filter f xs) ≡ false
none_filtered p f [] e = refl
none_filtered p f (x ∷ xs) e =
    let c = or_false (p x) (list_any p xs) e in
    elim (f x) as (λ b. list_any p (cond b (x ∷ filter f xs) (filter f xs)) ≡ false) [ true ↦ rw c.0 (none_filtered p f xs c.1) | false ↦ none_filtered p f xs c.1 ]

none_left_by : {X : Type 0} (p : X → Bool) (x : X) (left : List X) (b : Bool) → p x ≡ b → list_any p left ≡ false → list_any p (cond (not b) (x ∷ left) left) ≡ false
none_left_by p x left true e none = none
none_left_by p x left false e none = rw e none

pub none_left : {X : Type 0} (p : X → Bool) (xs : List X) → list_any p (filter (λ x. not (p x)) xs) ≡ false
none_left p [] = refl
none_left p (x ∷ xs) = none_left_by p x (filter (λ y. not (p y)) xs) (p x) refl (none_left p xs)

pub none_taken : {X : Type 0} (p : X → Bool) (n : ℕ) (xs : List X) → list_any p xs ≡ false → list_any p (take n xs) ≡ false
none_taken p zero xs e = refl
none_taken p (suc n) [] e = refl
none_taken p (suc n) (x ∷ xs) e =
    let c = or_false (p x) (list_any p xs) e in
    rw c.0 (none_taken p n xs c.1)

-- a narrower test passes nothing either
pub none_narrower : {X : Type 0} (p q : X → Bool) (xs : List X) → list_any p xs ≡ false → list_any (λ x. p x && q x) xs ≡ false
none_narrower p q [] e = refl
none_narrower p q (x ∷ xs) e =
    let c = or_false (p x) (list_any p xs) e in
    rw c.0 (none_narrower p q xs c.1)

pub all_filtered : {X : Type 0} (p f : X → Bool) (xs : List X) → list_all p xs ≡ true → list_all p (filter f xs) ≡ true
all_filtered p f [] e = refl
all_filtered p f (x ∷ xs) e =
    let c = and_parts (p x) (list_all p xs) e in
    elim (f x) as (λ b. list_all p (cond b (x ∷ filter f xs) (filter f xs)) ≡ true) [ true ↦ rw c.0 (all_filtered p f xs c.1) | false ↦ all_filtered p f xs c.1 ]

pub all_parts : {X : Type 0} (p : X → Bool) (xs ys : List X) → list_all p (xs ++ ys) ≡ true → (list_all p xs ≡ true) × (list_all p ys ≡ true)
all_parts p [] ys e = (refl, e)
all_parts p (x ∷ xs) ys e =
    let c = and_parts (p x) (list_all p (xs ++ ys)) e in
    let d = all_parts p xs ys c.1 in
    (and_from (p x) (list_all p xs) c.0 d.0, d.1)

-- one more, for which there is room
pub take_roomy : {X : Type 0} (n : ℕ) (xs : List X) → length xs ≤ n → (take n xs ≡ xs) × (drop n xs ≡ [])
take_roomy zero [] le = (refl, refl)
take_roomy (suc n) [] le = (refl, refl)
take_roomy zero (x ∷ xs) le = absurd (omega arith)
take_roomy (suc n) (x ∷ xs) le =
    let h = take_roomy n xs (omega arith) in
    (ap (λ ys. x ∷ ys) h.0, h.1)

pub cut_at : {X : Type 0} (n : ℕ) (ys zs : List X) → length ys ≡ n → (take n (ys ++ zs) ≡ ys) × (drop n (ys ++ zs) ≡ zs)
cut_at zero [] zs e = (refl, refl)
cut_at (suc n) [] zs e = absurd (omega arith)
cut_at zero (y ∷ ys) zs e = absurd (omega arith)
cut_at (suc n) (y ∷ ys) zs e =
    let h = cut_at n ys zs (omega arith) in
    (ap (λ xs. y ∷ xs) h.0, h.1)

-- What stands in front of an item within the first n stays there.
pub take-front : {X : Type 0} (front : List X) (x : X) (back : List X) (n : ℕ) → length front < n → (m : ℕ) × (take n (front ++ x ∷ back) ≡ front ++ x ∷ take m back)
take-front [] x back zero lt = absurd (omega arith)
take-front [] x back (suc n) lt = (n, refl)
take-front (y ∷ front) x back zero lt = absurd (omega arith)
take-front (y ∷ front) x back (suc n) lt =
    let h = take-front front x back n (omega arith) in
    (h.0, ap (λ ys. y ∷ ys) h.1)
