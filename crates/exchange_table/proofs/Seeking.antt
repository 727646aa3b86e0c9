-- Those of one number together: one of them is found by a second number, and all by the first of them.
use Rattle.std.proofs.Common.{◌≡◌, ◌≢◌, ℕ, zero, suc, ◌+◌, ◌-◌, ◌<◌, ◌≤◌, Bool, true, false, not, cond, ◌&&◌, ltb, eqb, List, [], ◌∷◌, length, take, drop, get_or, Some, None, ◌⊎◌, inl, inr, refl, sym, ap, subst, ◌∙◌, ltb-true, ltb-false, lt-ltb, arith}
use Rattle.std.specs.Prelude.{filter}
use Rattle.std.specs.List.{AllByRecursion, position, position_or_len}
use Rattle.std.specs.List.Sorted.{IsPartitionedBy, IsPartitionPoint}
use Rattle.std.proofs.lemmas.Bool.{cases_Bool, eqb-true, false≢true}
use Rattle.std.proofs.lemmas.List.{length-drop}
use Rattle.history_laws.proofs.CallerLemmas.{all-more}
use Rattle.exchange_table.specs.Places.{RiseBy, IsNowhere, IsOnlyAt}
use Rattle.exchange_table.specs.Groups.{Ascend, IsFirstFrom, is_before, is_beside, is_by}
use Rattle.exchange_table.proofs.Grouping.{above-none, default, greater, reads-other, so-many}
use Rattle.exchange_table.proofs.Searching.{none-some, or-first, or-second, same-as, some-is}
use Rattle.exchange_table.proofs.Standing.{Tells, all-at, at-all, three}

and-true : (b c : Bool) → (b && c) ≡ true → (b ≡ true) × (c ≡ true)
and-true true c h = (refl, h)
and-true false c h = absurd (false≢true h)

-- what holds of those that are kept holds of each that is
unfiltered : {X : Type 0} (P : X → Type 0) (q : X → Bool) (xs : List X) → AllByRecursion P (filter q xs) → AllByRecursion (λ x. q x ≡ true → P x) xs
unfiltered P q [] a = tt
unfiltered {X = X} P q (x ∷ xs) a = by (q x) refl a (unfiltered P q xs)
  where
    by : (b : Bool) → q x ≡ b → AllByRecursion P (cond b (x ∷ filter q xs) (filter q xs))
        → (AllByRecursion P (filter q xs) → AllByRecursion (λ y. q y ≡ true → P y) xs) → AllByRecursion (λ y. q y ≡ true → P y) (x ∷ xs)
    by true is h f = (λ so. h.0, f h.1)
    by false is h f = (λ so. absurd (false≢true (sym is ∙ so)), f h)

rise-kept : {X : Type 0} (n : X → ℕ) (q : X → Bool) (x : X) (xs : List X) → RiseBy n (filter q (x ∷ xs)) → RiseBy n (filter q xs)
rise-kept {X = X} n q x xs r = by (q x) r
  where
    by : (b : Bool) → RiseBy n (cond b (x ∷ filter q xs) (filter q xs)) → RiseBy n (filter q xs)
    by true h = h.1
    by false h = h

rise-above : {X : Type 0} (n : X → ℕ) (q : X → Bool) (x : X) (xs : List X) → q x ≡ true → RiseBy n (filter q (x ∷ xs)) → AllByRecursion (λ y. n x < n y) (filter q xs)
rise-above {X = X} n q x xs is r = (subst (λ (b : Bool). RiseBy n (cond b (x ∷ filter q xs) (filter q xs))) is r).0

-- one that passes a test in a place, and no other
only-of : {X : Type 0} (q : X → Bool) (xs : List X) (i : ℕ) → i < length xs → ((d : X) → q (get_or xs i d) ≡ true)
    → ((k : ℕ) (d : X) → k < length xs → k ≢ i → q (get_or xs k d) ≡ false) → IsOnlyAt q xs i
only-of q [] i lt is others = absurd (omega (arith, lt))
only-of q (x ∷ xs) zero lt is others = (is x, at-all (λ y. q y ≡ false) xs (λ k d less. others (suc k) d (omega (arith, less)) (λ e. absurd (omega (arith, e)))))
only-of q (x ∷ xs) (suc i) lt is others = (
  others 0 x (omega arith) (λ e. absurd (omega (arith, e))),
  only-of q xs i (omega (arith, lt)) is (λ k d less differs. others (suc k) d (omega (arith, less)) (λ e. differs (omega (arith, e)))),
)

module _ {X : Type 0} (num sub : X → ℕ) (k l : ℕ) where
  -- what a later one is to one before it
  record Follows (x y : X) : Type 0 where
    number : num x ≤ num y
    second : num x ≡ k → num y ≡ k → sub x < sub y

  all-follow : (x : X) (xs : List X) → AllByRecursion (λ y. num x ≤ num y) xs → RiseBy sub (filter (is_by num k) (x ∷ xs)) → AllByRecursion (Follows x) xs
  all-follow x xs order rise = by (cases_Bool (is_by num k x))
    where
      one : (y : X) → num x ≤ num y → (is_by num k x ≡ true → is_by num k y ≡ true → sub x < sub y) → Follows x y
      one y le so = record { number = le; second = λ a b. so (same-as (num x) k a) (same-as (num y) k b) }

      each : (ys : List X) → AllByRecursion (λ y. num x ≤ num y) ys → AllByRecursion (λ y. is_by num k x ≡ true → is_by num k y ≡ true → sub x < sub y) ys → AllByRecursion (Follows x) ys
      each [] a b = tt
      each (y ∷ ys) a b = (one y a.0 b.0, each ys a.1 b.1)

      by : (is_by num k x ≡ true) ⊎ (is_by num k x ≡ false) → AllByRecursion (Follows x) xs
      by (inl is) = each xs order (all-more (λ y. is_by num k y ≡ true → sub x < sub y) (λ y. is_by num k x ≡ true → is_by num k y ≡ true → sub x < sub y)
          (λ y so a. so) xs (unfiltered (λ y. sub x < sub y) (is_by num k) xs (rise-above sub (is_by num k) x xs is rise)))
      by (inr isnt) = each xs order (all-more (λ y. num x ≤ num y) (λ y. is_by num k x ≡ true → is_by num k y ≡ true → sub x < sub y)
          (λ y le a. absurd (false≢true (sym isnt ∙ a))) xs order)

  follow : (xs : List X) (i j : ℕ) (d : X) → Ascend num xs → RiseBy sub (filter (is_by num k) xs) → i < j → j < length xs → Follows (get_or xs i d) (get_or xs j d)
  follow [] i j d order rise less lt = absurd (omega (arith, lt))
  follow (x ∷ xs) i zero d order rise less lt = absurd (omega (arith, less))
  follow (x ∷ xs) zero (suc j) d order rise less lt = all-at (Follows x) xs j d (all-follow x xs order.0 rise) (omega (arith, lt))
  follow (x ∷ xs) (suc i) (suc j) d order rise less lt = follow xs i j d order.1 (rise-kept sub (is_by num k) x xs rise) (omega (arith, less)) (omega (arith, lt))

  -- whether one stands before
  abbrev Stands : X → Type 0
  Stands x = (num x < k) ⊎ ((num x ≡ k) × (sub x < l))

  stands : (x : X) → is_before num sub k l x ≡ true → Stands x
  stands x e = elim (cases_Bool (ltb (num x) k)) [
    | inl is ↦ inl (ltb-true (num x) k is)
    | inr isnt ↦
        let rest : (eqb (num x) k && ltb (sub x) l) ≡ true = rw isnt at e in
        let both = and-true (eqb (num x) k) (ltb (sub x) l) rest in
        inr (eqb-true (num x) k both.0, ltb-true (sub x) l both.1)
  ]

  is-standing : (x : X) → Stands x → is_before num sub k l x ≡ true
  is-standing x (inl lt) = or-first (ltb (num x) k) (eqb (num x) k && ltb (sub x) l) (lt-ltb (num x) k lt)
  is-standing x (inr both) = or-second (ltb (num x) k) (eqb (num x) k && ltb (sub x) l) (rw (same-as (num x) k both.0, lt-ltb (sub x) l both.1) refl)

  not-standing : (x : X) → is_before num sub k l x ≡ false → Stands x → ⊥
  not-standing x isnt is = false≢true (sym isnt ∙ is-standing x is)

  before-too : (x y : X) → Follows x y → is_before num sub k l y ≡ true → is_before num sub k l x ≡ true
  before-too x y f e = elim (stands y e) [
    | inl lt ↦ let le = f.number in is-standing x (inl (omega (arith, lt, le)))
    | inr both ↦ elim (three (num x) k) [
      | inl lt ↦ is-standing x (inl lt)
      | inr rest ↦ elim rest [
        | inl same ↦ let less = f.second same both.0 in let low = both.1 in is-standing x (inr (same, omega (arith, less, low)))
        | inr more ↦ absurd (let le = f.number in let same = both.0 in omega (arith, le, same, more))
      ]
    ]
  ]

  pub parted : (xs : List X) → Ascend num xs → RiseBy sub (filter (is_by num k) xs) → IsPartitionedBy (is_before num sub k l) xs
  parted xs order rise i j d le lt e = elim (three i j) [
    | inl less ↦ before-too (get_or xs i d) (get_or xs j d) (follow xs i j d order rise less lt) e
    | inr rest ↦ elim rest [
      | inl same ↦ ap (λ (n : ℕ). is_before num sub k l (get_or xs n d)) same ∙ e
      | inr more ↦ absurd (omega (arith, le, more))
    ]
  ]

  -- what a search comes to
  abbrev pub Parts : List X → ℕ → Type 0
  Parts xs i = IsPartitionPoint (λ x. is_before num sub k l x ≡ true) (λ x. is_before num sub k l x ≡ false) xs i

  module _ (q : X → Bool) (tells : Tells sub l q) where
    abbrev There : X → Type 0
    There x = q x ≡ true → num x ≡ k

    -- neither one before is it, nor one after that it could stand before
    not-before : (x : X) → There x → is_before num sub k l x ≡ true → q x ≡ false
    not-before x there e = elim (cases_Bool (q x)) [
      | inl is ↦ elim (stands x e) [
        | inl lt ↦ absurd (let same = there is in omega (arith, lt, same))
        | inr both ↦ absurd (let low = both.1 in let same = tells x is in omega (arith, low, same))
      ]
      | inr isnt ↦ isnt
    ]

    not-after : (x y : X) → Follows x y → There y → is_before num sub k l x ≡ false → q y ≡ false
    not-after x y f there isnt = elim (cases_Bool (q y)) [
      | inl is ↦ elim (three (num x) k) [
        | inl lt ↦ absurd (not-standing x isnt (inl lt))
        | inr rest ↦ elim rest [
          | inl same ↦ absurd (let less = f.second same (there is) in let last = tells y is in not-standing x isnt (inr (same, omega (arith, less, last))))
          | inr more ↦ absurd (let le = f.number in let same = there is in omega (arith, le, same, more))
        ]
      ]
      | inr not_it ↦ not_it
    ]

    not-both : (x y : X) → Follows x y → There x → There y → q x ≡ true → q y ≡ true → ⊥
    not-both x y f there these is too =
        let less = f.second (there is) (these too) in
        let a = tells x is in
        let b = tells y too in
        omega (arith, less, a, b)

    module _ (xs : List X) (i : ℕ) (order : Ascend num xs) (rise : RiseBy sub (filter (is_by num k) xs)) (there : AllByRecursion There xs) where
      pub none-beyond : Parts xs i → length xs ≤ i → IsNowhere q xs
      none-beyond parts le = at-all (λ x. q x ≡ false) xs (λ j d lt. not-before (get_or xs j d) (all-at There xs j d there lt) (parts.0 j d (omega arith) (omega (arith, lt, le))))

      pub none-there : (x : X) → Parts xs i → i < length xs → x ≡ get_or xs i x → q x ≡ false → IsNowhere q xs
      none-there x parts at_place at_it isnt = at-all (λ y. q y ≡ false) xs (λ j d lt. elim (three j i) [
        | inl less ↦ not-before (get_or xs j d) (all-at There xs j d there lt) (parts.0 j d (omega arith) less)
        | inr rest ↦ elim rest [
          | inl same ↦ ap (λ (n : ℕ). q (get_or xs n d)) same ∙ ap q (default xs i d x at_place ∙ sym at_it) ∙ isnt
          | inr more ↦ not-after (get_or xs i d) (get_or xs j d) (follow xs i j d order rise more lt) (all-at There xs j d there lt) (parts.1 i d (omega arith) at_place)
        ]
      ])

      pub only-there : (x : X) → i < length xs → x ≡ get_or xs i x → q x ≡ true → IsOnlyAt q xs i
      only-there x at_place at_it is =
          only-of q xs i at_place here (λ j d lt differs. elim (cases_Bool (q (get_or xs j d))) [
            | inl too ↦ elim (three j i) [
              | inl less ↦ absurd (not-both (get_or xs j d) (get_or xs i d) (follow xs j i d order rise less at_place) (all-at There xs j d there lt) (all-at There xs i d there at_place) too (here d))
              | inr rest ↦ elim rest [
                | inl same ↦ absurd (differs same)
                | inr more ↦ absurd (not-both (get_or xs i d) (get_or xs j d) (follow xs i j d order rise more lt) (all-at There xs i d there at_place) (all-at There xs j d there lt) (here d) too)
              ]
            ]
            | inr isnt ↦ isnt
          ])
        where
          here : (d : X) → q (get_or xs i d) ≡ true
          here d = ap q (default xs i d x at_place ∙ sym at_it) ∙ is

-- those of one number, where none of a lower one stands before them

module _ {X : Type 0} (num : X → ℕ) (o : ℕ) where
  ascend-drop : (xs : List X) (i : ℕ) → Ascend num xs → Ascend num (drop i xs)
  ascend-drop [] zero a = a
  ascend-drop [] (suc i) a = a
  ascend-drop (x ∷ xs) zero a = a
  ascend-drop (x ∷ xs) (suc i) a = ascend-drop xs i a.1

  of-rest : (xs : List X) (i : ℕ) → AllByRecursion (λ x. num x < o) (take i xs) → filter (is_by num o) (drop i xs) ≡ filter (is_by num o) xs
  of-rest [] zero a = refl
  of-rest [] (suc i) a = refl
  of-rest (x ∷ xs) zero a = refl
  of-rest (x ∷ xs) (suc i) a =
      of-rest xs i a.1 ∙ ap (λ (b : Bool). cond b (x ∷ filter (is_by num o) xs) (filter (is_by num o) xs)) (sym (reads-other num o x (λ e. absurd (let low = a.0 in omega (arith, low, e)))))

  take-past : (xs : List X) (n : ℕ) → length xs ≤ n → take n xs ≡ xs
  take-past [] zero le = refl
  take-past [] (suc n) le = refl
  take-past (x ∷ xs) zero le = absurd (omega (arith, le))
  take-past (x ∷ xs) (suc n) le = ap (λ (ys : List X). x ∷ ys) (take-past xs n (omega (arith, le)))

  -- all from a place on, as a slice has it
  whole-rest : (xs : List X) (i : ℕ) → take (length xs - i) (drop i xs) ≡ drop i xs
  whole-rest xs i = take-past (drop i xs) (length xs - i) (let len = length-drop i xs in omega (arith, len))

  pub ascend-rest : (xs : List X) (i : ℕ) → Ascend num xs → Ascend num (take (length xs - i) (drop i xs))
  ascend-rest xs i a = subst (Ascend num) (sym (whole-rest xs i)) (ascend-drop xs i a)

  pub rest-from : (xs : List X) (i : ℕ) → IsFirstFrom num o xs i → AllByRecursion (λ x. o ≤ num x) (take (length xs - i) (drop i xs))
  rest-from xs i f = subst (AllByRecursion (λ (x : X). o ≤ num x)) (sym (whole-rest xs i)) f.from

  pub in-rest : (xs : List X) (i : ℕ) → IsFirstFrom num o xs i → filter (is_by num o) (take (length xs - i) (drop i xs)) ≡ filter (is_by num o) xs
  in-rest xs i f = ap (λ (ys : List X). filter (is_by num o) ys) (whole-rest xs i) ∙ of-rest xs i f.before

  abbrev upto : List X → ℕ
  upto xs = position_or_len (is_beside num o) xs

  take-upto : (xs : List X) → Ascend num xs → AllByRecursion (λ x. o ≤ num x) xs → take (upto xs) xs ≡ filter (is_by num o) xs
  take-upto [] order from = refl
  take-upto (x ∷ xs) order from = by (is_by num o x) refl (take-upto xs order.1 from.1)
    where
      by : (b : Bool) → is_by num o x ≡ b → take (upto xs) xs ≡ filter (is_by num o) xs
          → take (cond (not (not b)) (1 + upto xs) 0) (x ∷ xs) ≡ cond b (x ∷ filter (is_by num o) xs) (filter (is_by num o) xs)
      by true is h = so-many (1 + upto xs) (suc (upto xs)) (x ∷ xs) (omega arith) ∙ ap (λ (ys : List X). x ∷ ys) h
      by false is h =
          let above : o + 1 ≤ num x = greater o (num x) from.0 (λ e. false≢true (sym is ∙ same-as (num x) o e)) in
          sym (above-none num o xs (all-more (λ y. num x ≤ num y) (λ y. o + 1 ≤ num y) (λ y le. omega (arith, le, above)) xs order.0))

  pub record IsRun (xs : List X) (n : ℕ) : Type 0 where
    pub within : n < length xs
    pub run : take n xs ≡ filter (is_by num o) xs

  pub run-some : (xs : List X) (n : ℕ) → Ascend num xs → AllByRecursion (λ x. o ≤ num x) xs → position (is_beside num o) xs ≡ Some n → IsRun xs n
  run-some xs n order from at = by (ltb (upto xs) (length xs)) refl at
    where
      by : (b : Bool) → ltb (upto xs) (length xs) ≡ b → cond b (Some (upto xs)) None ≡ Some n → IsRun xs n
      by true is e =
          let same : upto xs ≡ n = some-is (upto xs) n e in
          record { within = subst (λ (m : ℕ). m < length xs) same (ltb-true (upto xs) (length xs) is); run = so-many n (upto xs) xs (sym same) ∙ take-upto xs order from }
      by false is e = absurd (none-some n e)

  pub run-none : (xs : List X) → Ascend num xs → AllByRecursion (λ x. o ≤ num x) xs → position (is_beside num o) xs ≡ None → xs ≡ filter (is_by num o) xs
  run-none xs order from at = by (ltb (upto xs) (length xs)) refl at
    where
      by : (b : Bool) → ltb (upto xs) (length xs) ≡ b → cond b (Some (upto xs)) None ≡ None → xs ≡ filter (is_by num o) xs
      by true is e = absurd (none-some (upto xs) (sym e))
      by false is e = sym (take-past xs (upto xs) (ltb-false (upto xs) (length xs) is)) ∙ take-upto xs order from
