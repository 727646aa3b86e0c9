-- What a table keeps of its rows.
use Rattle.std.proofs.Common.{◌≡◌, ℕ, zero, suc, ◌+◌, ◌<◌, List, Some, [], ◌∷◌, ◌++◌, length, map, take, drop, get_or, inl, inr, Bool, true, false, not, refl, sym, ap, subst, ◌∙◌, arith}
use Rattle.std.specs.Prelude.{remove}
use Rattle.std.specs.List.{All, filter}
use Rattle.std.proofs.Math.ListN.{set}
use Rattle.std.proofs.lemmas.Bool.{cases_Bool}
use Rattle.std.proofs.lemmas.List.Elements.{All-nil, All-cons, All-head, All-tail, All-append, All-push, All-set, All-take, All-drop, All-map, All-filter, All-weaker}
use Rattle.gateway_connections.specs.declared.row.Row.{Row}
use Rattle.gateway_connections.specs.Inlets.{Inlet, IsSound, AreRising, AreKept}
use Rattle.gateway_connections.specs.Rows.{AreInOrder, HasNumber, IsWhole, current_in, marked_in, number_in, current_of, marked_of, settled, put_back}
use Rattle.gateway_connections.proofs.Listing.{current-more, current-skip, marked-more, marked-skip}
use Rattle.gateway_connections.proofs.Placing.{above-first}

-- the order

pub order-set : (rows : List Row) (i n : ℕ) (y : Row) → AreInOrder rows → HasNumber rows i n → number_in y ≡ n → AreInOrder (set rows i y)
order-set [] i n y order e same = absurd cc
order-set (z ∷ zs) zero n y order e same =
    let here : number_in z ≡ number_in y = same-number (number_in z) n e ∙ sym same in
    (subst (λ (k : ℕ). All (λ (r : Row). k < number_in r) zs) here order.0, order.1)
  where
    same-number : (m k : ℕ) → Some m ≡ Some k → m ≡ k
    same-number m k e = cc
order-set (z ∷ zs) (suc i) n y order e same =
    let lt = above-first (number_in z) zs i n order.0 e in
    (All-set (λ (r : Row). number_in z < number_in r) zs i y (subst (λ (k : ℕ). number_in z < k) (sym same) lt) order.0, order-set zs i n y order.1 e same)

pub all-remove : (P : Row → Type 0) (rows : List Row) (i : ℕ) → All P rows → All P (remove rows i)
all-remove P rows i all = All-append P (take i rows) (drop (suc i) rows) (All-take P i rows all) (All-drop P (suc i) rows all)

pub order-remove : (rows : List Row) (i : ℕ) → i < length rows → AreInOrder rows → AreInOrder (remove rows i)
order-remove [] i lt order = absurd (omega (arith, lt))
order-remove (z ∷ zs) zero lt order = order.1
order-remove (z ∷ zs) (suc i) lt order = (all-remove (λ (r : Row). number_in z < number_in r) zs i order.0, order-remove zs i (omega (arith, lt)) order.1)

pub order-push : (rows : List Row) (y : Row) → AreInOrder rows → All (λ (r : Row). number_in r < number_in y) rows → AreInOrder (rows ++ y ∷ [])
order-push [] y order all = (All-nil (λ (r : Row). number_in y < number_in r), tt)
order-push (z ∷ zs) y order all = (
  All-push (λ (r : Row). number_in z < number_in r) zs y order.0 (All-head (λ (r : Row). number_in r < number_in y) z zs all),
  order-push zs y order.1 (All-tail (λ (r : Row). number_in r < number_in y) z zs all),
)

pub order-filter : (p : Row → Bool) (rows : List Row) → AreInOrder rows → AreInOrder (filter p rows)
order-filter p [] order = tt
order-filter p (z ∷ zs) order =
    let rest = order-filter p zs order.1 in
    elim (cases_Bool (p z)) [
      | inl kept ↦ rw kept (All-filter p (λ (r : Row). number_in z < number_in r) zs order.0, rest)
      | inr out ↦ rw out rest
    ]

pub order-map : (f : Row → Row) (rows : List Row) → All (λ (r : Row). number_in (f r) ≡ number_in r) rows → AreInOrder rows → AreInOrder (map f rows)
order-map f [] same order = tt
order-map f (z ∷ zs) same order =
    let P : Row → Type 0 = λ (r : Row). number_in (f r) ≡ number_in r in
    let here = All-head P z zs same in
    let later = All-tail P z zs same in
    (All-map (λ (r : Row). number_in (f z) < number_in r) f zs (above zs later (subst (λ (k : ℕ). All (λ (r : Row). k < number_in r) zs) (sym here) order.0)), order-map f zs later order.1)
  where
    above : (rs : List Row) → All (λ (r : Row). number_in (f r) ≡ number_in r) rs → All (λ (r : Row). number_in (f z) < number_in r) rs → All (λ (r : Row). number_in (f z) < number_in (f r)) rs
    above rs same all k d lt = subst (λ (m : ℕ). number_in (f z) < m) (sym (same k d lt)) (all k d lt)

-- the numbers of the connections rise
pub rising-current : (rows : List Row) → AreInOrder rows → AreRising (current_of rows)
rising-current [] order = tt
rising-current (z ∷ zs) order =
    let rest = rising-current zs order.1 in
    elim (cases_Bool z.closed) [
      | inl shut ↦ subst AreRising (sym (current-skip z zs shut)) rest
      | inr still ↦ subst AreRising (sym (current-more z zs still))
          (All-map (λ (y : Inlet). number_in z < y.number) current_in (filter (λ (r : Row). not r.closed) zs) (All-filter (λ (r : Row). not r.closed) (λ (r : Row). number_in z < number_in r) zs order.0), rest)
    ]

pub rising-marked : (rows : List Row) → AreInOrder rows → All IsWhole rows → AreRising (marked_of rows)
rising-marked [] order whole = tt
rising-marked (z ∷ zs) order whole =
    let here = All-head IsWhole z zs whole in
    let later = All-tail IsWhole z zs whole in
    let rest = rising-marked zs order.1 later in
    elim (cases_Bool z.fresh) [
      | inl new ↦ subst AreRising (sym (marked-skip z zs new)) rest
      | inr old ↦ subst AreRising (sym (marked-more z zs old)) (
        All-map (λ (y : Inlet). (marked_in z).number < y.number) marked_in (filter (λ (r : Row). not r.fresh) zs)
            (All-filter (λ (r : Row). not r.fresh) (λ (r : Row). (marked_in z).number < (marked_in r).number) zs (above zs here.number later order.0)),
        rest,
      )
    ]
  where
    above : (rs : List Row) → (marked_in z).number ≡ number_in z → All IsWhole rs → All (λ (r : Row). number_in z < number_in r) rs → All (λ (r : Row). (marked_in z).number < (marked_in r).number) rs
    above rs here whole all k d lt = let w = whole k d lt in let less = all k d lt in let there = w.number in omega (arith, here, less, there)

-- each of them is sound
pub sound-current : (rows : List Row) → All IsWhole rows → All IsSound (current_of rows)
sound-current rows whole =
    All-map IsSound current_in (filter (λ (r : Row). not r.closed) rows)
    (All-filter (λ (r : Row). not r.closed) (λ (r : Row). IsSound (current_in r)) rows (All-weaker IsWhole (λ (r : Row). IsSound (current_in r)) (λ r w. w.current) rows whole))

pub sound-marked : (rows : List Row) → All IsWhole rows → All IsSound (marked_of rows)
sound-marked rows whole =
    All-map IsSound marked_in (filter (λ (r : Row). not r.fresh) rows)
    (All-filter (λ (r : Row). not r.fresh) (λ (r : Row). IsSound (marked_in r)) rows (All-weaker IsWhole (λ (r : Row). IsSound (marked_in r)) (λ r w. w.marked) rows whole))

pub kept-current : (rows : List Row) → AreInOrder rows → All IsWhole rows → AreKept (current_of rows)
kept-current rows order whole = record { numbers = rising-current rows order; sound = sound-current rows whole }

pub kept-marked : (rows : List Row) → AreInOrder rows → All IsWhole rows → AreKept (marked_of rows)
kept-marked rows order whole = record { numbers = rising-marked rows order whole; sound = sound-marked rows whole }

-- a row changed, taken out, or put last

pub whole-set : (rows : List Row) (i : ℕ) (x y : Row) → i < length rows → x ≡ get_or rows i x → All IsWhole rows → (IsWhole x → IsWhole y) → All IsWhole (set rows i y)
whole-set rows i x y lt at_it whole keeps = All-set IsWhole rows i y (keeps (subst IsWhole (sym at_it) (whole i x lt))) whole

pub whole-remove : (rows : List Row) (i : ℕ) → All IsWhole rows → All IsWhole (remove rows i)
whole-remove rows i whole = all-remove IsWhole rows i whole

-- Where a number is above all that are open and all at the mark, it is above those of all rows.
pub above-rows : (n : ℕ) (rows : List Row) → All IsWhole rows → All (λ (x : Inlet). x.number < n) (current_of rows) → All (λ (x : Inlet). x.number < n) (marked_of rows) → All (λ (r : Row). number_in r < n) rows
above-rows n [] whole now before = All-nil (λ (r : Row). number_in r < n)
above-rows n (z ∷ zs) whole now before =
    let P : Inlet → Type 0 = λ (x : Inlet). x.number < n in
    let w = All-head IsWhole z zs whole in
    let later = All-tail IsWhole z zs whole in
    elim (cases_Bool z.closed) [
      | inl shut ↦
          let old : z.fresh ≡ false = stays z w shut in
          let m = subst (All P) (marked-more z zs old) before in
          let lt = All-head P (marked_in z) (marked_of zs) m in
          let same = w.number in
          All-cons (λ (r : Row). number_in r < n) z zs (omega (arith, lt, same))
          (above-rows n zs later (subst (All P) (current-skip z zs shut) now) (All-tail P (marked_in z) (marked_of zs) m))
      | inr still ↦
          let m = subst (All P) (current-more z zs still) now in
          All-cons (λ (r : Row). number_in r < n) z zs (All-head P (current_in z) (current_of zs) m)
          (above-rows n zs later (All-tail P (current_in z) (current_of zs) m) (tail-marked before))
    ]
  where
    tail-marked : All (λ (x : Inlet). x.number < n) (marked_of (z ∷ zs)) → All (λ (x : Inlet). x.number < n) (marked_of zs)
    tail-marked all =
        let P : Inlet → Type 0 = λ (x : Inlet). x.number < n in
        elim (cases_Bool z.fresh) [
          | inl new ↦ subst (All P) (marked-skip z zs new) all
          | inr old ↦ All-tail P (marked_in z) (marked_of zs) (subst (All P) (marked-more z zs old) all)
        ]

    stays : (r : Row) → IsWhole r → r.closed ≡ true → r.fresh ≡ false
    stays r w shut = elim (cases_Bool r.fresh) [ inl new ↦ absurd (differs (sym shut ∙ w.stays new)) | inr old ↦ old ]
      where
        differs : true ≡ false → ⊥
        differs e = absurd cc

-- marking, and going back

pub settled-current : (rows : List Row) → current_of (map settled (filter (λ (r : Row). not r.closed) rows)) ≡ current_of rows
settled-current [] = refl
settled-current (z ∷ zs) =
    let rest = settled-current zs in
    elim (cases_Bool z.closed) [
      | inl shut ↦ rw shut rest
      | inr still ↦ rw still (ap (λ (vs : List Inlet). current_in z ∷ vs) rest)
    ]

pub settled-marked : (rows : List Row) → marked_of (map settled (filter (λ (r : Row). not r.closed) rows)) ≡ current_of rows
settled-marked [] = refl
settled-marked (z ∷ zs) =
    let rest = settled-marked zs in
    elim (cases_Bool z.closed) [
      | inl shut ↦ rw shut rest
      | inr still ↦ rw still (ap (λ (vs : List Inlet). current_in z ∷ vs) rest)
    ]

pub back-current : (rows : List Row) → current_of (map put_back (filter (λ (r : Row). not r.fresh) rows)) ≡ marked_of rows
back-current [] = refl
back-current (z ∷ zs) =
    let rest = back-current zs in
    elim (cases_Bool z.fresh) [
      | inl new ↦ rw new rest
      | inr old ↦ rw old (ap (λ (vs : List Inlet). marked_in z ∷ vs) rest)
    ]

pub back-marked : (rows : List Row) → marked_of (map put_back (filter (λ (r : Row). not r.fresh) rows)) ≡ marked_of rows
back-marked [] = refl
back-marked (z ∷ zs) =
    let rest = back-marked zs in
    elim (cases_Bool z.fresh) [
      | inl new ↦ rw new rest
      | inr old ↦ rw old (ap (λ (vs : List Inlet). marked_in z ∷ vs) rest)
    ]

pub settled-whole : (rows : List Row) (p : Row → Bool) → AreInOrder rows → All IsWhole rows → AreInOrder (map settled (filter p rows)) × All IsWhole (map settled (filter p rows))
settled-whole rows p order whole = (
  order-map settled (filter p rows) (λ k d lt. refl) (order-filter p rows order),
  All-map IsWhole settled (filter p rows) (All-weaker IsWhole (λ (r : Row). IsWhole (settled r)) (λ r w. one r w) (filter p rows) (All-filter p IsWhole rows whole)),
)
  where
    one : (r : Row) → IsWhole r → IsWhole (settled r)
    one r w = record { current = w.current; marked = w.current; number = refl; stays = λ e. absurd cc }

pub back-whole : (rows : List Row) (p : Row → Bool) → AreInOrder rows → All IsWhole rows → AreInOrder (map put_back (filter p rows)) × All IsWhole (map put_back (filter p rows))
back-whole rows p order whole =
    let kept = All-filter p IsWhole rows whole in (
      order-map put_back (filter p rows) (λ k d lt. (kept k d lt).number) (order-filter p rows order),
      All-map IsWhole put_back (filter p rows) (All-weaker IsWhole (λ (r : Row). IsWhole (put_back r)) (λ r w. one r w) (filter p rows) kept),
    )
  where
    one : (r : Row) → IsWhole r → IsWhole (put_back r)
    one r w = record { current = w.marked; marked = w.marked; number = refl; stays = λ e. refl }

-- a loop over all, at one
pub each-one : (f : Row → Row) (xs : List Row) (i : ℕ) (ys : List Row) (x y : Row) → i < length xs → ys ≡ map f (take i xs) ++ drop i xs → x ≡ get_or ys i x → y ≡ f x → set ys i y ≡ map f (take (i + 1) xs) ++ drop (i + 1) xs
each-one f xs i ys x y lt so_far at_it is =
    let place : i + 1 ≡ suc i = omega arith in
    ap (λ (v : Row). set ys i v) is ∙ ap (λ (vs : List Row). set vs i (f x)) so_far ∙ go xs i lt (at_it ∙ ap (λ (vs : List Row). get_or vs i x) so_far)
    ∙ ap (λ (k : ℕ). map f (take k xs) ++ drop k xs) (sym place)
  where
    go : (zs : List Row) (j : ℕ) → j < length zs → x ≡ get_or (map f (take j zs) ++ drop j zs) j x → set (map f (take j zs) ++ drop j zs) j (f x) ≡ map f (take (suc j) zs) ++ drop (suc j) zs
    go [] j lt e = absurd (omega (arith, lt))
    go (z ∷ zs) zero lt e = ap (λ (v : Row). f v ∷ zs) e
    go (z ∷ zs) (suc j) lt e = ap (λ (vs : List Row). f z ∷ vs) (go zs j (omega (arith, lt)) e)
