-- A row at its place among those whose numbers rise.
use Rattle.std.proofs.Common.{◌≡◌, ◌≢◌, ℕ, zero, suc, ◌<◌, List, [], ◌∷◌, inl, inr, Bool, true, false, Some, refl, sym, ap, subst, ◌∙◌, get_or, length, arith}
use Rattle.std.specs.Prelude.{option_map, remove}
use Rattle.std.specs.List.{All, slice_get}
use Rattle.std.proofs.Math.ListN.{set}
use Rattle.std.proofs.lemmas.Bool.{cases_Bool}
use Rattle.std.proofs.lemmas.List.Elements.{All-cons, All-head, All-tail}
use Rattle.gateway_connections.specs.declared.row.Row.{Row}
use Rattle.gateway_connections.specs.Inlets.{Inlet, inlet_at, without, changed_at}
use Rattle.gateway_connections.specs.Rows.{AreInOrder, HasNumber, IsClosed, current_in, marked_in, number_in, current_of, marked_of}
use Rattle.gateway_connections.proofs.Listing.{current-more, current-skip, marked-more, marked-skip, none-after, found-head, found-later, changed-head, changed-later, without-head, without-later}

same-flag : (b c : Bool) → Some b ≡ Some c → b ≡ c
same-flag b c e = cc

same-number : (m n : ℕ) → Some m ≡ Some n → m ≡ n
same-number m n e = cc

abbrev pub IsFresh : List Row → ℕ → Bool → Type 0
IsFresh rows i b = option_map (λ (r : Row). r.fresh) (slice_get rows i) ≡ Some b

pub above-first : (k : ℕ) (zs : List Row) (i n : ℕ) → All (λ (r : Row). k < number_in r) zs → HasNumber zs i n → k < n
above-first k [] i n all e = absurd cc
above-first k (z ∷ zs) zero n all e = subst (λ (m : ℕ). k < m) (same-number (number_in z) n e) (All-head (λ (r : Row). k < number_in r) z zs all)
above-first k (z ∷ zs) (suc i) n all e = above-first k zs i n (All-tail (λ (r : Row). k < number_in r) z zs all) e

other-number : (z : Row) (zs : List Row) (i n : ℕ) → AreInOrder (z ∷ zs) → HasNumber zs i n → number_in z ≢ n
other-number z zs i n order e same = let lt = above-first (number_in z) zs i n order.0 e in absurd (omega (arith, lt, same))

none-later : (z : Row) (zs : List Row) (n : ℕ) → AreInOrder (z ∷ zs) → number_in z ≡ n → All (λ (x : Inlet). x.number ≢ n) (current_of zs)
none-later z zs n order here = none-after n zs (subst (λ (k : ℕ). All (λ (r : Row). k < number_in r) zs) here order.0)

-- The open one of the number is found.
pub found-at : (rows : List Row) (i n : ℕ) (x : Row) → AreInOrder rows → HasNumber rows i n → IsClosed rows i false → x ≡ get_or rows i x → inlet_at n (current_of rows) ≡ Some (current_in x)
found-at [] i n x order e opened at_it = absurd cc
found-at (z ∷ zs) zero n x order e opened at_it =
    ap (inlet_at n) (current-more z zs (same-flag z.closed false opened))
    ∙ found-head n (current_in z) (current_of zs) (same-number (number_in z) n e)
    ∙ ap (λ (r : Row). Some (current_in r)) (sym at_it)
found-at (z ∷ zs) (suc i) n x order e opened at_it =
    let rest = found-at zs i n x order.1 e opened at_it in
    elim (cases_Bool z.closed) [
      | inl shut ↦ ap (inlet_at n) (current-skip z zs shut) ∙ rest
      | inr still ↦ ap (inlet_at n) (current-more z zs still) ∙ found-later n (current_in z) (current_of zs) (other-number z zs i n order e) ∙ rest
    ]

-- another in its place, with the same number
pub put-current : (rows : List Row) (i n : ℕ) (x y : Row) (f : Inlet → Inlet) → AreInOrder rows → HasNumber rows i n → IsClosed rows i false → x ≡ get_or rows i x → y.closed ≡ x.closed → current_in y ≡ f (current_in x)
    → current_of (set rows i y) ≡ changed_at n f (current_of rows)
put-current [] i n x y f order e opened at_it kept is = absurd cc
put-current (z ∷ zs) zero n x y f order e opened at_it kept is =
    let shut : z.closed ≡ false = same-flag z.closed false opened in
    let shut_y : y.closed ≡ false = kept ∙ ap (λ (r : Row). r.closed) at_it ∙ shut in
    let here : number_in z ≡ n = same-number (number_in z) n e in
    current-more y zs shut_y ∙ ap (λ (v : Inlet). v ∷ current_of zs) (is ∙ ap (λ (r : Row). f (current_in r)) at_it)
    ∙ sym (ap (changed_at n f) (current-more z zs shut) ∙ changed-head n f (current_in z) (current_of zs) here (none-later z zs n order here))
put-current (z ∷ zs) (suc i) n x y f order e opened at_it kept is =
    let rest = put-current zs i n x y f order.1 e opened at_it kept is in
    elim (cases_Bool z.closed) [
      | inl shut ↦ current-skip z (set zs i y) shut ∙ rest ∙ sym (ap (changed_at n f) (current-skip z zs shut))
      | inr still ↦
          current-more z (set zs i y) still ∙ ap (λ (vs : List Inlet). current_in z ∷ vs) rest
          ∙ sym (ap (changed_at n f) (current-more z zs still) ∙ changed-later n f (current_in z) (current_of zs) (other-number z zs i n order e))
    ]

-- a closed one in its place
pub shut-current : (rows : List Row) (i n : ℕ) (y : Row) → AreInOrder rows → HasNumber rows i n → IsClosed rows i false → y.closed ≡ true → current_of (set rows i y) ≡ without n (current_of rows)
shut-current [] i n y order e opened shut_y = absurd cc
shut-current (z ∷ zs) zero n y order e opened shut_y =
    let here : number_in z ≡ n = same-number (number_in z) n e in
    current-skip y zs shut_y
    ∙ sym (ap (without n) (current-more z zs (same-flag z.closed false opened)) ∙ without-head n (current_in z) (current_of zs) here (none-later z zs n order here))
shut-current (z ∷ zs) (suc i) n y order e opened shut_y =
    let rest = shut-current zs i n y order.1 e opened shut_y in
    elim (cases_Bool z.closed) [
      | inl shut ↦ current-skip z (set zs i y) shut ∙ rest ∙ sym (ap (without n) (current-skip z zs shut))
      | inr still ↦
          current-more z (set zs i y) still ∙ ap (λ (vs : List Inlet). current_in z ∷ vs) rest
          ∙ sym (ap (without n) (current-more z zs still) ∙ without-later n (current_in z) (current_of zs) (other-number z zs i n order e))
    ]

-- the row taken out
pub out-current : (rows : List Row) (i n : ℕ) → AreInOrder rows → HasNumber rows i n → IsClosed rows i false → current_of (remove rows i) ≡ without n (current_of rows)
out-current [] i n order e opened = absurd cc
out-current (z ∷ zs) zero n order e opened =
    let here : number_in z ≡ n = same-number (number_in z) n e in
    sym (ap (without n) (current-more z zs (same-flag z.closed false opened)) ∙ without-head n (current_in z) (current_of zs) here (none-later z zs n order here))
out-current (z ∷ zs) (suc i) n order e opened =
    let rest = out-current zs i n order.1 e opened in
    elim (cases_Bool z.closed) [
      | inl shut ↦ current-skip z (remove zs i) shut ∙ rest ∙ sym (ap (without n) (current-skip z zs shut))
      | inr still ↦
          current-more z (remove zs i) still ∙ ap (λ (vs : List Inlet). current_in z ∷ vs) rest
          ∙ sym (ap (without n) (current-more z zs still) ∙ without-later n (current_in z) (current_of zs) (other-number z zs i n order e))
    ]

-- What was at the mark stays.
pub put-marked : (rows : List Row) (i : ℕ) (x y : Row) → x ≡ get_or rows i x → y.fresh ≡ x.fresh → marked_in y ≡ marked_in x → marked_of (set rows i y) ≡ marked_of rows
put-marked [] i x y at_it kept same = refl
put-marked (z ∷ zs) zero x y at_it kept same =
    let at_z : y.fresh ≡ z.fresh = kept ∙ ap (λ (r : Row). r.fresh) at_it in
    elim (cases_Bool z.fresh) [
      | inl new ↦ marked-skip y zs (at_z ∙ new) ∙ sym (marked-skip z zs new)
      | inr old ↦ marked-more y zs (at_z ∙ old) ∙ ap (λ (v : Inlet). v ∷ marked_of zs) (same ∙ ap marked_in at_it) ∙ sym (marked-more z zs old)
    ]
put-marked (z ∷ zs) (suc i) x y at_it kept same =
    let rest = put-marked zs i x y at_it kept same in
    elim (cases_Bool z.fresh) [
      | inl new ↦ marked-skip z (set zs i y) new ∙ rest ∙ sym (marked-skip z zs new)
      | inr old ↦ marked-more z (set zs i y) old ∙ ap (λ (vs : List Inlet). marked_in z ∷ vs) rest ∙ sym (marked-more z zs old)
    ]

pub out-marked : (rows : List Row) (i : ℕ) → IsFresh rows i true → marked_of (remove rows i) ≡ marked_of rows
out-marked [] i new = absurd cc
out-marked (z ∷ zs) zero new = sym (marked-skip z zs (same-flag z.fresh true new))
out-marked (z ∷ zs) (suc i) new =
    let rest = out-marked zs i new in
    elim (cases_Bool z.fresh) [
      | inl young ↦ marked-skip z (remove zs i) young ∙ rest ∙ sym (marked-skip z zs young)
      | inr old ↦ marked-more z (remove zs i) old ∙ ap (λ (vs : List Inlet). marked_in z ∷ vs) rest ∙ sym (marked-more z zs old)
    ]

-- what a place has, of the row that is read there
pub flag-at : (f : Row → Bool) (rows : List Row) (i : ℕ) (x : Row) (b : Bool) → i < length rows → x ≡ get_or rows i x → f x ≡ b → option_map f (slice_get rows i) ≡ Some b
flag-at f [] i x b lt at_it is = absurd (omega (arith, lt))
flag-at f (z ∷ zs) zero x b lt at_it is = ap Some (ap f (sym at_it) ∙ is)
flag-at f (z ∷ zs) (suc i) x b lt at_it is = flag-at f zs i x b (omega (arith, lt)) at_it is

pub number-at : (rows : List Row) (i n : ℕ) (x : Row) → i < length rows → x ≡ get_or rows i x → number_in x ≡ n → HasNumber rows i n
number-at [] i n x lt at_it is = absurd (omega (arith, lt))
number-at (z ∷ zs) zero n x lt at_it is = ap Some (ap number_in (sym at_it) ∙ is)
number-at (z ∷ zs) (suc i) n x lt at_it is = number-at zs i n x (omega (arith, lt)) at_it is

-- The closed one at the place is the only one of its number.
pub closed-none : (rows : List Row) (i n : ℕ) → AreInOrder rows → HasNumber rows i n → IsClosed rows i true → All (λ (x : Inlet). x.number ≢ n) (current_of rows)
closed-none [] i n order e shut = absurd cc
closed-none (z ∷ zs) zero n order e shut =
    let P : Inlet → Type 0 = λ (x : Inlet). x.number ≢ n in
    let here : number_in z ≡ n = same-number (number_in z) n e in
    subst (All P) (sym (current-skip z zs (same-flag z.closed true shut))) (none-later z zs n order here)
closed-none (z ∷ zs) (suc i) n order e shut =
    let P : Inlet → Type 0 = λ (x : Inlet). x.number ≢ n in
    let rest = closed-none zs i n order.1 e shut in
    elim (cases_Bool z.closed) [
      | inl gone ↦ subst (All P) (sym (current-skip z zs gone)) rest
      | inr still ↦ subst (All P) (sym (current-more z zs still)) (All-cons P (current_in z) (current_of zs) (other-number z zs i n order e) rest)
    ]
