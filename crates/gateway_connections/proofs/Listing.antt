-- The rows of a table as lists of inlets.
use Rattle.std.proofs.Common.{◌≡◌, ◌≢◌, ℕ, ◌<◌, List, [], ◌∷◌, map, inl, inr, Bool, true, false, cond, not, Some, None, refl, ap, ◌∙◌, arith}
use Rattle.std.specs.List.{All, filter}
use Rattle.std.proofs.lemmas.Bool.Decides.{eqb_tells}
use Rattle.std.proofs.lemmas.List.Elements.{All-head, All-tail, All-weaker, All-map, All-filter}
use Rattle.gateway_connections.specs.declared.row.Row.{Row}
use Rattle.gateway_connections.specs.Inlets.{Inlet, inlet_at, without, changed_at}
use Rattle.gateway_connections.specs.Rows.{current_in, marked_in, number_in, current_of, marked_of}

-- one row more

pub current-more : (z : Row) (zs : List Row) → z.closed ≡ false → current_of (z ∷ zs) ≡ current_in z ∷ current_of zs
current-more z zs opened = ap (λ (b : Bool). map current_in (cond (not b) (z ∷ filter (λ (r : Row). not r.closed) zs) (filter (λ (r : Row). not r.closed) zs))) opened

pub current-skip : (z : Row) (zs : List Row) → z.closed ≡ true → current_of (z ∷ zs) ≡ current_of zs
current-skip z zs shut = ap (λ (b : Bool). map current_in (cond (not b) (z ∷ filter (λ (r : Row). not r.closed) zs) (filter (λ (r : Row). not r.closed) zs))) shut

pub marked-more : (z : Row) (zs : List Row) → z.fresh ≡ false → marked_of (z ∷ zs) ≡ marked_in z ∷ marked_of zs
marked-more z zs old = ap (λ (b : Bool). map marked_in (cond (not b) (z ∷ filter (λ (r : Row). not r.fresh) zs) (filter (λ (r : Row). not r.fresh) zs))) old

pub marked-skip : (z : Row) (zs : List Row) → z.fresh ≡ true → marked_of (z ∷ zs) ≡ marked_of zs
marked-skip z zs new = ap (λ (b : Bool). map marked_in (cond (not b) (z ∷ filter (λ (r : Row). not r.fresh) zs) (filter (λ (r : Row). not r.fresh) zs))) new

-- none of those after it has its number
pub none-after : (n : ℕ) (zs : List Row) → All (λ (r : Row). n < number_in r) zs → All (λ (x : Inlet). x.number ≢ n) (current_of zs)
none-after n zs all =
    All-map (λ (x : Inlet). x.number ≢ n) current_in (filter (λ (r : Row). not r.closed) zs)
    (All-filter (λ (r : Row). not r.closed) (λ (r : Row). number_in r ≢ n) zs
    (All-weaker (λ (r : Row). n < number_in r) (λ (r : Row). number_in r ≢ n) (λ r lt e. absurd (omega (arith, lt, e))) zs all))

-- where an inlet has the number, or none has

pub found-head : (n : ℕ) (x : Inlet) (xs : List Inlet) → x.number ≡ n → inlet_at n (x ∷ xs) ≡ Some x
found-head n x xs here = elim (eqb_tells x.number n) [ inl u ↦ rw (u.0) refl | inr u ↦ absurd (u.1 here) ]

pub found-later : (n : ℕ) (x : Inlet) (xs : List Inlet) → x.number ≢ n → inlet_at n (x ∷ xs) ≡ inlet_at n xs
found-later n x xs away = elim (eqb_tells x.number n) [ inl u ↦ absurd (away u.1) | inr u ↦ rw (u.0) refl ]

pub found-none : (n : ℕ) (xs : List Inlet) → All (λ (x : Inlet). x.number ≢ n) xs → inlet_at n xs ≡ None
found-none n [] all = refl
found-none n (x ∷ xs) all =
    found-later n x xs (All-head (λ (x : Inlet). x.number ≢ n) x xs all) ∙ found-none n xs (All-tail (λ (x : Inlet). x.number ≢ n) x xs all)

pub changed-later : (n : ℕ) (f : Inlet → Inlet) (x : Inlet) (xs : List Inlet) → x.number ≢ n → changed_at n f (x ∷ xs) ≡ x ∷ changed_at n f xs
changed-later n f x xs away = elim (eqb_tells x.number n) [ inl u ↦ absurd (away u.1) | inr u ↦ rw (u.0) refl ]

pub changed-none : (n : ℕ) (f : Inlet → Inlet) (xs : List Inlet) → All (λ (x : Inlet). x.number ≢ n) xs → changed_at n f xs ≡ xs
changed-none n f [] all = refl
changed-none n f (x ∷ xs) all =
    changed-later n f x xs (All-head (λ (x : Inlet). x.number ≢ n) x xs all)
    ∙ ap (λ (ys : List Inlet). x ∷ ys) (changed-none n f xs (All-tail (λ (x : Inlet). x.number ≢ n) x xs all))

pub changed-head : (n : ℕ) (f : Inlet → Inlet) (x : Inlet) (xs : List Inlet) → x.number ≡ n → All (λ (x : Inlet). x.number ≢ n) xs → changed_at n f (x ∷ xs) ≡ f x ∷ xs
changed-head n f x xs here all =
    elim (eqb_tells x.number n) [
      | inl u ↦ rw (u.0) (ap (λ (ys : List Inlet). f x ∷ ys) (changed-none n f xs all))
      | inr u ↦ absurd (u.1 here)
    ]

pub without-later : (n : ℕ) (x : Inlet) (xs : List Inlet) → x.number ≢ n → without n (x ∷ xs) ≡ x ∷ without n xs
without-later n x xs away = elim (eqb_tells x.number n) [ inl u ↦ absurd (away u.1) | inr u ↦ rw (u.0) refl ]

pub without-none : (n : ℕ) (xs : List Inlet) → All (λ (x : Inlet). x.number ≢ n) xs → without n xs ≡ xs
without-none n [] all = refl
without-none n (x ∷ xs) all =
    without-later n x xs (All-head (λ (x : Inlet). x.number ≢ n) x xs all)
    ∙ ap (λ (ys : List Inlet). x ∷ ys) (without-none n xs (All-tail (λ (x : Inlet). x.number ≢ n) x xs all))

pub without-head : (n : ℕ) (x : Inlet) (xs : List Inlet) → x.number ≡ n → All (λ (x : Inlet). x.number ≢ n) xs → without n (x ∷ xs) ≡ xs
without-head n x xs here all =
    elim (eqb_tells x.number n) [ inl u ↦ rw (u.0) (without-none n xs all) | inr u ↦ absurd (u.1 here) ]
