-- What segments hold, by number.
use Rattle.std.proofs.Common.{◌≡◌, ℕ, zero, suc, ◌+◌, ◌*◌, ◌/◌, ◌%◌, ◌-◌, ◌<◌, ◌≤◌, inl, inr, min, List, [], ◌∷◌, ◌++◌, map, length, get_or, set, take, drop, Option, Some, option_map, slice_get, refl, sym, ap, subst, ◌∙◌, arith, append_assoc, append-nil, length-append, vec_len, vec_capacity}
use Rattle.std.specs.Borrow.{Bor}
use Rattle.std.specs.Prelude.{MatchOption, None, remove, slice_index_or}
use Rattle.std.specs.Slice.{IsItemAt}
use Rattle.std.specs.declared.alloc.Global.{Global}
use Rattle.std.specs.declared.vec.Vec.{Vec}
use Rattle.std.proofs.lemmas.Bool.{cases_lt}
use Rattle.std.proofs.lemmas.List.{drop_all, length-map, length-take, map_push, nil_from_length, take_more, take-map}
use Rattle.std.proofs.lemmas.Option.{slice_get-get_or, slice_get-map, slice_get_within, same_Some, get_or_from_slice_get}
use Rattle.journal_book.specs.Entries.{Written}
use Rattle.journal_book.specs.Journals.{IsHere}
use Rattle.journal_book.specs.Segments.{AreFilled, entries_in}
use Rattle.journal_book.specs.Views.{item_of}
use Rattle.journal_book.specs.declared.entry.Entry.{Entry}

-- a number in the first segment, and one behind it

place-first : (k : ℕ) → k < 1024 → k / 1024 ≡ 0
place-first k h = omega arith

within-first : (k : ℕ) → k < 1024 → k % 1024 ≡ k
within-first k h = omega arith

place-later : (k : ℕ) → 1024 ≤ k → k / 1024 ≡ suc ((k - 1024) / 1024)
place-later k h = omega arith

within-later : (k : ℕ) → 1024 ≤ k → k % 1024 ≡ (k - 1024) % 1024
within-later k h = omega arith

-- lists, one behind another

pub get-first : {A : Type 0} (xs ys : List A) (k : ℕ) → k < length xs
    → slice_get (xs ++ ys) k ≡ slice_get xs k
get-first [] ys k h = absurd (omega (arith, h))
get-first (x ∷ xs) ys zero h = refl
get-first (x ∷ xs) ys (suc k) h = get-first xs ys k (omega (arith, h))

pub get-later : {A : Type 0} (xs ys : List A) (k : ℕ) → length xs ≤ k
    → slice_get (xs ++ ys) k ≡ slice_get ys (k - length xs)
get-later [] ys k h = ap (λ (n : ℕ). slice_get ys n) (omega arith)
get-later (x ∷ xs) ys zero h = absurd (omega (arith, h))
get-later (x ∷ xs) ys (suc k) h =
    get-later xs ys k (omega (arith, h)) ∙ ap (λ (n : ℕ). slice_get ys n) (omega arith)

take-later : {A : Type 0} (xs ys : List A) (k : ℕ) → length xs ≤ k
    → take k (xs ++ ys) ≡ xs ++ take (k - length xs) ys
take-later [] ys k h = ap (λ (n : ℕ). take n ys) (omega arith)
take-later (x ∷ xs) ys zero h = absurd (omega (arith, h))
take-later (x ∷ xs) ys (suc k) h =
    ap (λ zs. x ∷ zs) (take-later xs ys k (omega (arith, h))
    ∙ ap (λ (n : ℕ). xs ++ take n ys) (omega arith))

-- segments that hold none

none-in : {R : Type 0} (ss : List (Vec (Entry R) Global)) (n : ℕ) → AreFilled ss n → n ≡ 0
    → entries_in ss ≡ []
none-in [] n f z = refl
none-in (s ∷ ss) n f z =
    let none : s.items ≡ [] = nil_from_length s.items (omega (arith, f.0)) in
    rw none (none-in ss (n - 1024) f.2 (omega arith))

-- how many they hold, and how many they have places for

pub length-in : {R : Type 0} (ss : List (Vec (Entry R) Global)) (n : ℕ) → AreFilled ss n
    → length (entries_in ss) ≡ n
length-in [] n f = sym f
length-in (s ∷ ss) n f =
    let here : length s.items ≡ min n 1024 = f.0 in
    let later : length (entries_in ss) ≡ n - 1024 = length-in ss (n - 1024) f.2 in
    let mapped : length (map item_of s.items) ≡ length s.items = length-map s.items item_of in
    omega (arith, length-append (map item_of s.items) (entries_in ss))

pub places-in : {R : Type 0} (ss : List (Vec (Entry R) Global)) (n : ℕ) → AreFilled ss n
    → n ≤ 1024 * length ss
places-in [] n f = omega (arith, f)
places-in (s ∷ ss) n f = omega (arith, places-in ss (n - 1024) f.2)

-- the entry at a number

pub entry-there : {R : Type 0} (ss : List (Vec (Entry R) Global)) (n k : ℕ)
    (s : Vec (Entry R) Global) (e : Entry R) → AreFilled ss n → slice_get ss (k / 1024) ≡ Some s
    → slice_get s.items (k % 1024) ≡ Some e → slice_get (entries_in ss) k ≡ Some (item_of e)
entry-there [] n k s e f g h = cc
entry-there (x ∷ xs) n k s e f g h = elim (cases_lt k 1024) [
  | inl first ↦
      let same : x ≡ s =
      same_Some x s (subst (λ (p : ℕ). slice_get (x ∷ xs) p ≡ Some s) (place-first k first) g) in
      let here : slice_get x.items k ≡ Some e =
      ap (λ v. slice_get v.items k) same
      ∙ subst (λ (p : ℕ). slice_get s.items p ≡ Some e) (within-first k first) h in
      let within : k < length x.items = slice_get_within x.items k e here in
      get-first (map item_of x.items) (entries_in xs) k (omega (arith, length-map x.items item_of))
      ∙ slice_get-map item_of x.items k ∙ ap (option_map item_of) here
  | inr later ↦
      let rest : slice_get (entries_in xs) (k - 1024) ≡ Some (item_of e) =
      entry-there xs (n - 1024) (k - 1024) s e f.2
      (subst (λ (p : ℕ). slice_get (x ∷ xs) p ≡ Some s) (place-later k later) g)
      (subst (λ (p : ℕ). slice_get s.items p ≡ Some e) (within-later k later) h) in
      let within : k - 1024 < length (entries_in xs) = slice_get_within (entries_in xs) (k - 1024) _ rest in
      let count : length (entries_in xs) ≡ n - 1024 = length-in xs (n - 1024) f.2 in
      let here : length x.items ≡ min n 1024 = f.0 in
      let mapped : length (map item_of x.items) ≡ length x.items = length-map x.items item_of in
      let full : length (map item_of x.items) ≡ 1024 = omega arith in
      get-later (map item_of x.items) (entries_in xs) k (omega arith)
      ∙ ap (λ (m : ℕ). slice_get (entries_in xs) (k - m)) full ∙ rest
]

no-segment : {R : Type 0} (ss : List (Vec (Entry R) Global)) (n k : ℕ) → AreFilled ss n
    → length ss ≤ k / 1024 → n ≤ k
no-segment ss n k f h = omega (arith, places-in ss n f)

no-entry : {R : Type 0} (ss : List (Vec (Entry R) Global)) (n k : ℕ)
    (s : Vec (Entry R) Global) → AreFilled ss n → slice_get ss (k / 1024) ≡ Some s
    → length s.items ≤ k % 1024 → n ≤ k
no-entry [] n k s f g h = absurd cc
no-entry (x ∷ xs) n k s f g h = elim (cases_lt k 1024) [
  | inl first ↦
      let same : x ≡ s =
      same_Some x s (subst (λ (p : ℕ). slice_get (x ∷ xs) p ≡ Some s) (place-first k first) g) in
      let here : length s.items ≡ min n 1024 = ap (λ v. length v.items) (sym same) ∙ f.0 in
      let within : k % 1024 ≡ k = within-first k first in
      omega arith
  | inr later ↦
      let rest : n - 1024 ≤ k - 1024 =
      no-entry xs (n - 1024) (k - 1024) s f.2
      (subst (λ (p : ℕ). slice_get (x ∷ xs) p ≡ Some s) (place-later k later) g)
      (subst (λ (p : ℕ). length s.items ≤ p) (within-later k later) h) in
      omega arith
]

-- what is found there

pub found-in : {R : Type 0} (ss : List (Vec (Entry R) Global)) (n k : ℕ)
    (s : Vec (Entry R) Global) (r : Option (Bor (Entry R))) → AreFilled ss n
    → slice_get ss (k / 1024) ≡ Some s → IsItemAt s.items (k % 1024) r
    → MatchOption r (length (entries_in ss) ≤ k)
    (λ e. slice_get (entries_in ss) k ≡ Some (item_of e.now))
found-in ss n k s None f g h =
    let count : length (entries_in ss) ≡ n = length-in ss n f in
    let none : n ≤ k = no-entry ss n k s f g h.3 in
    omega arith
found-in ss n k s (Some e) f g h =
    entry-there ss n k s e.now f g
    (slice_get-get_or s.items (k % 1024) e.now h.3.0 ∙ ap (λ x. Some x) (sym (h.3.1 e.now)))

pub none-found : {R : Type 0} (ss : List (Vec (Entry R) Global)) (n k : ℕ) → AreFilled ss n
    → length ss ≤ k / 1024 → length (entries_in ss) ≤ k
none-found ss n k f h =
    let count : length (entries_in ss) ≡ n = length-in ss n f in
    let none : n ≤ k = no-segment ss n k f h in
    omega arith

-- the segment of the next entry, and of the last

place-there : (count n : ℕ) → n < 1024 * count → n / 1024 < count
place-there count n h = omega arith

pub next-place : {R : Type 0} (v : Vec (Vec (Entry R) Global) Global) (n : ℕ)
    (s : Vec (Entry R) Global) → n < 1024 * vec_len v → s ≡ get_or v.items (n / 1024) s
    → slice_get v.items (n / 1024) ≡ Some s
next-place v n s h e =
    let counted = v.ok.0 in
    slice_get-get_or v.items (n / 1024) s (place-there (length v.items) n (omega (arith, h, counted)))
    ∙ ap (λ t. Some t) (sym e)

pub last-below : {R : Type 0} (v : Vec (Vec (Entry R) Global) Global) (n : ℕ)
    → AreFilled v.items n → 0 < n → n - 1 < 1024 * vec_len v
last-below v n f some = omega (arith, places-in v.items n f, v.ok.0)

pub place-below : {R : Type 0} (v : Vec (Vec (Entry R) Global) Global) (n : ℕ)
    → n < 1024 * vec_len v → n / 1024 < vec_len v
place-below v n h = place-there (vec_len v) n h

pub room-there : {R : Type 0} (ss : List (Vec (Entry R) Global)) (n : ℕ) (s : Vec (Entry R) Global)
    → AreFilled ss n → slice_get ss (n / 1024) ≡ Some s
    → (length s.items ≡ n % 1024) × (1024 ≤ vec_capacity s)
room-there [] n s f g = absurd cc
room-there (x ∷ xs) n s f g = elim (cases_lt n 1024) [
  | inl first ↦
      let same : x ≡ s =
      same_Some x s (subst (λ (p : ℕ). slice_get (x ∷ xs) p ≡ Some s) (place-first n first) g) in
      let here : length s.items ≡ min n 1024 = ap (λ v. length v.items) (sym same) ∙ f.0 in
      let within : n % 1024 ≡ n = within-first n first in
      (omega arith, subst (λ v. 1024 ≤ vec_capacity v) same f.1)
  | inr later ↦
      let rest = room-there xs (n - 1024) s f.2
      (subst (λ (p : ℕ). slice_get (x ∷ xs) p ≡ Some s) (place-later n later) g) in
      (rest.0 ∙ sym (within-later n later), rest.1)
]

-- one more entry

pub put-in : {R : Type 0} (ss : List (Vec (Entry R) Global)) (n : ℕ)
    (s t : Vec (Entry R) Global) (e : Entry R) → AreFilled ss n → slice_get ss (n / 1024) ≡ Some s
    → t.items ≡ s.items ++ e ∷ [] → vec_capacity t ≡ vec_capacity s
    → AreFilled (set ss (n / 1024) t) (n + 1)
    × (entries_in (set ss (n / 1024) t) ≡ entries_in ss ++ item_of e ∷ [])
put-in [] n s t e f g items capacity = absurd cc
put-in (x ∷ xs) n s t e f g items capacity = elim (cases_lt n 1024) [
  | inl first ↦
      let same : x ≡ s =
      same_Some x s (subst (λ (p : ℕ). slice_get (x ∷ xs) p ≡ Some s) (place-first n first) g) in
      let here : length s.items ≡ min n 1024 = ap (λ v. length v.items) (sym same) ∙ f.0 in
      let longer : length t.items ≡ length s.items + 1 =
      ap length items ∙ length-append s.items (e ∷ []) in
      let none : entries_in xs ≡ [] = none-in xs (n - 1024) f.2 (omega arith) in
      let all : map item_of t.items ++ entries_in xs
      ≡ (map item_of x.items ++ entries_in xs) ++ item_of e ∷ [] =
      rw (none, items, same) (append-nil _ ∙ map_push item_of s.items e
      ∙ ap (λ zs. zs ++ item_of e ∷ []) (sym (append-nil (map item_of s.items)))) in
      rw place-first (
        (
          omega arith,
          subst (λ (m : ℕ). 1024 ≤ m) (ap vec_capacity same ∙ sym capacity) f.1,
          subst (AreFilled xs) (omega arith) f.2,
        ),
        all,
      )
  | inr later ↦
      let rest = put-in xs (n - 1024) s t e f.2
      (subst (λ (p : ℕ). slice_get (x ∷ xs) p ≡ Some s) (place-later n later) g) items capacity in
      let here : length x.items ≡ min n 1024 = f.0 in
      let filled : AreFilled (set xs ((n - 1024) / 1024) t) (n + 1 - 1024) =
      subst (AreFilled (set xs ((n - 1024) / 1024) t)) (omega arith) rest.0 in
      rw place-later (
        (omega arith, f.1, filled),
        ap (λ zs. map item_of x.items ++ zs) rest.1
            ∙ sym (append_assoc (map item_of x.items) (entries_in xs) (item_of e ∷ [])),
      )
]

-- one entry less

pub taken-from : {R : Type 0} (ss : List (Vec (Entry R) Global)) (n : ℕ)
    (s t : Vec (Entry R) Global) → AreFilled ss (n + 1) → slice_get ss (n / 1024) ≡ Some s
    → t.items ≡ take (n % 1024) s.items → vec_capacity t ≡ vec_capacity s
    → AreFilled (set ss (n / 1024) t) n × (entries_in (set ss (n / 1024) t) ≡ take n (entries_in ss))
taken-from [] n s t f g items capacity = absurd cc
taken-from (x ∷ xs) n s t f g items capacity = elim (cases_lt n 1024) [
  | inl first ↦
      let same : x ≡ s =
      same_Some x s (subst (λ (p : ℕ). slice_get (x ∷ xs) p ≡ Some s) (place-first n first) g) in
      let here : length s.items ≡ min (n + 1) 1024 = ap (λ v. length v.items) (sym same) ∙ f.0 in
      let cut : t.items ≡ take n s.items =
      items ∙ ap (λ (k : ℕ). take k s.items) (within-first n first) in
      let shorter : length t.items ≡ min n (length s.items) =
      ap length cut ∙ length-take n s.items in
      let none : entries_in xs ≡ [] = none-in xs (n + 1 - 1024) f.2 (omega arith) in
      let all : map item_of t.items ++ entries_in xs ≡ take n (map item_of x.items ++ entries_in xs) =
      rw (none, cut, same) (append-nil _ ∙ sym (take-map item_of n s.items)
      ∙ ap (take n) (sym (append-nil (map item_of s.items)))) in
      rw place-first (
        (
          omega arith,
          subst (λ (m : ℕ). 1024 ≤ m) (ap vec_capacity same ∙ sym capacity) f.1,
          subst (AreFilled xs) (omega arith) f.2,
        ),
        all,
      )
  | inr later ↦
      let rest = taken-from xs (n - 1024) s t (subst (AreFilled xs) (omega arith) f.2)
      (subst (λ (p : ℕ). slice_get (x ∷ xs) p ≡ Some s) (place-later n later) g)
      (items ∙ ap (λ (k : ℕ). take k s.items) (within-later n later)) capacity in
      let here : length x.items ≡ min (n + 1) 1024 = f.0 in
      let mapped : length (map item_of x.items) ≡ length x.items = length-map x.items item_of in
      let full : length (map item_of x.items) ≡ 1024 = omega arith in
      rw place-later (
        (omega arith, f.1, rest.0),
        ap (λ zs. map item_of x.items ++ zs) rest.1
            ∙ ap (λ (m : ℕ). map item_of x.items ++ take (n - m) (entries_in xs)) (sym full)
            ∙ sym (take-later (map item_of x.items) (entries_in xs) n (omega arith)),
      )
]

-- one more segment

pub begun-in : {R : Type 0} (ss : List (Vec (Entry R) Global)) (n : ℕ) (t : Vec (Entry R) Global)
    → AreFilled ss n → t.items ≡ [] → 1024 ≤ vec_capacity t → AreFilled (ss ++ t ∷ []) n
begun-in [] n t f items capacity =
    let none : length t.items ≡ 0 = ap length items in
    (omega (arith, f), capacity, omega (arith, f))
begun-in (s ∷ ss) n t f items capacity =
    (f.0, f.1, begun-in ss (n - 1024) t f.2 items capacity)

pub same-in : {R : Type 0} (ss : List (Vec (Entry R) Global)) (t : Vec (Entry R) Global)
    → t.items ≡ [] → entries_in (ss ++ t ∷ []) ≡ entries_in ss
same-in [] t items = rw items refl
same-in (s ∷ ss) t items = ap (λ zs. map item_of s.items ++ zs) (same-in ss t items)

-- one more of the first entries

pub first-more : (xs : List Written) (i : ℕ) (x : Written) → slice_get xs i ≡ Some x
    → take (i + 1) xs ≡ take i xs ++ x ∷ []
first-more xs i x e =
    take_more xs i x (slice_get_within xs i x e)
    ∙ ap (λ (y : Written). take i xs ++ y ∷ []) (get_or_from_slice_get xs i x x e)

-- the entries behind those that were given out

pub got-behind : {R : Type 0} (past : List Written) (ss : List (Vec (Entry R) Global))
    (given number place : ℕ) (kept : List ℕ) (r : Option (Bor (Entry R))) → given ≡ length past
    → given ≤ number → place ≡ number - given
    → MatchOption r (length (entries_in ss) ≤ place)
    (λ e. slice_get (entries_in ss) place ≡ Some (item_of e.now))
    → MatchOption r (IsHere given kept number → length (past ++ entries_in ss) ≤ number)
    (λ e. slice_get (past ++ entries_in ss) number ≡ Some (item_of e.now))
got-behind past ss given number place kept None is le at h =
    λ here. omega (arith, is, le, at, h, length-append past (entries_in ss))
got-behind past ss given number place kept (Some e) is le at h =
    let same : number - length past ≡ place = omega (arith, is, at) in
    get-later past (entries_in ss) number (omega (arith, is, le))
    ∙ ap (λ (n : ℕ). slice_get (entries_in ss) n) same ∙ h

pub last-taken : (past ents : List Written) (held : ℕ) → length ents ≡ held → 0 < held
    → past ++ take (held - 1) ents ≡ take (length (past ++ ents) - 1) (past ++ ents)
last-taken past ents held count some =
    let all = length-append past ents in
    let same : held - 1 ≡ length (past ++ ents) - 1 - length past = omega (arith, count, some, all) in
    ap (λ (n : ℕ). past ++ take n ents) same
    ∙ sym (take-later past ents (length (past ++ ents) - 1) (omega (arith, count, some, all)))

-- the first segment is given out

pub first-out : {R : Type 0} (ss : List (Vec (Entry R) Global)) (n : ℕ) (s : Vec (Entry R) Global)
    (rest : List (Vec (Entry R) Global)) → AreFilled ss n → 1024 ≤ n → s ≡ slice_index_or ss 0 s
    → rest ≡ remove ss 0
    → AreFilled rest (n - 1024) × (map item_of s.items ++ entries_in rest ≡ entries_in ss)
    × (length s.items ≡ 1024)
first-out [] n s rest f full is out = absurd (omega (arith, f, full))
first-out (x ∷ xs) n s rest f full is out =
    let same : s ≡ x = is in
    let left : rest ≡ xs = out in
    let here : length x.items ≡ min n 1024 = f.0 in
    let whole : length x.items ≡ 1024 = omega (arith, full) in
    rw (left, same) (f.2, refl, whole)

pub one-more-in : {R : Type 0} (ss : List (Vec (Entry R) Global)) (s : Vec (Entry R) Global)
    → entries_in (ss ++ s ∷ []) ≡ entries_in ss ++ map item_of s.items
one-more-in [] s = append-nil (map item_of s.items)
one-more-in (x ∷ xs) s =
    ap (λ zs. map item_of x.items ++ zs) (one-more-in xs s)
    ∙ sym (append_assoc (map item_of x.items) (entries_in xs) (map item_of s.items))

pub passed-on : (was made now xs rest ents : List Written) → now ≡ made ++ xs → made ≡ was
    → xs ++ rest ≡ ents → now ++ rest ≡ was ++ ents
passed-on was made now xs rest ents more same whole =
    ap (λ (ws : List Written). ws ++ rest) more ∙ append_assoc made xs rest
    ∙ ap (λ (ws : List Written). ws ++ (xs ++ rest)) same
    ∙ ap (λ (ws : List Written). was ++ ws) whole

pub past-longer : (given : ℕ) (was made now xs : List Written) → given ≡ length was
    → now ≡ made ++ xs → made ≡ was → length xs ≡ 1024 → given + 1024 ≡ length now
past-longer given was made now xs is more same many =
    let longer = ap (λ (ws : List Written). length ws) more in
    let alike = ap (λ (ws : List Written). length ws) same in
    omega (arith, is, longer, alike, length-append made xs, many)

behind-all : (xs ys : List Written) → drop (length xs) (xs ++ ys) ≡ ys
behind-all [] ys = refl
behind-all (x ∷ xs) ys = behind-all xs ys

pub first-behind : (was xs rest ents : List Written) (given : ℕ) → given ≡ length was
    → xs ++ rest ≡ ents → length xs ≡ 1024 → xs ≡ take 1024 (drop given (was ++ ents))
first-behind was xs rest ents given is whole many =
    let none : 1024 - length xs ≡ 0 = omega (arith, many) in
    sym (ap (λ (n : ℕ). take 1024 (drop n (was ++ ents))) is ∙ ap (take 1024) (behind-all was ents)
    ∙ ap (take 1024) (sym whole) ∙ take-later xs rest 1024 (omega (arith, many))
    ∙ ap (λ (n : ℕ). xs ++ take n rest) none ∙ append-nil xs)

pub none_first : (g : ℕ) (xs : List Written) → drop g (take g xs) ≡ []
none_first g xs = drop_all g (take g xs) (omega (arith, length-take g xs))

-- one more behind the first ones

drop-later : (xs : List Written) (x : Written) (g : ℕ) → g ≤ length xs
    → drop g (xs ++ x ∷ []) ≡ drop g xs ++ x ∷ []
drop-later xs x zero h = refl
drop-later [] x (suc g) h = absurd (omega (arith, h))
drop-later (y ∷ xs) x (suc g) h = drop-later xs x g (omega (arith, h))

pub more-behind : (xs : List Written) (g i : ℕ) (x : Written) → g ≤ i → slice_get xs i ≡ Some x
    → drop g (take (i + 1) xs) ≡ drop g (take i xs) ++ x ∷ []
more-behind xs g i x le e =
    let within : i < length xs = slice_get_within xs i x e in
    let long = length-take i xs in
    ap (drop g) (first-more xs i x e) ∙ drop-later (take i xs) x g (omega (arith, long, le))
