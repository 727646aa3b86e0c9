-- What of a list is of a moment or later.
use Rattle.std.proofs.Common.{◌≡◌, ℕ, ◌+◌, ◌≤◌, ◌<◌, max, List, [], ◌∷◌, ◌++◌, length, filter, count_by, Option, None, Some, Bool, true, false, cond, ◌&&◌, nat_le, refl, sym, ◌∙◌, ap, arith, append-nil, length-append, drop}
use Rattle.std.specs.List.{find}
use Rattle.std.specs.Option.{option_or, option_to_list}
use Rattle.std.proofs.lemmas.List.Folds.{find-append}
use Rattle.std.proofs.lemmas.Bool.{le-leb}
use Rattle.std.proofs.lemmas.Bool.Decides.{nat_tests}
use Rattle.std.proofs.lemmas.List.Elements.{filter-append}
use Rattle.std.proofs.lemmas.List.Sums.{length-filter}
use Rattle.message_layer.specs.Kept.{is_since, is_whole, kept, kept_room}
use borrow.Author.Tests.{eqb-true}

-- nothing is before moment 0
pub since-zero : {A : Type 0} (f : A → ℕ) (xs : List A) → filter (is_since f 0) xs ≡ xs
since-zero f [] = refl
since-zero f (x ∷ xs) =
    let yes : is_since f 0 x ≡ true = le-leb 0 (f x) (omega arith) in
    ap (λ (b : Bool). cond b (x ∷ filter (is_since f 0) xs) (filter (is_since f 0) xs)) yes
    ∙ ap (λ ys. x ∷ ys) (since-zero f xs)

-- the same test, the same items
pub filter-alike : {A : Type 0} (p q : A → Bool) → ((x : A) → p x ≡ q x) → (xs : List A)
    → filter p xs ≡ filter q xs
filter-alike p q same [] = refl
filter-alike p q same (x ∷ xs) =
    ap (λ (b : Bool). cond b (x ∷ filter p xs) (filter p xs)) (same x)
    ∙ ap (λ ys. cond (q x) (x ∷ ys) ys) (filter-alike p q same xs)

-- one test after another
filter-both : {A : Type 0} (p q : A → Bool) (xs : List A)
    → filter q (filter p xs) ≡ filter (λ x. p x && q x) xs
filter-both p q [] = refl
filter-both p q (x ∷ xs) = by (p x) refl (filter-both p q xs)
  where
    by : (b : Bool) → p x ≡ b → filter q (filter p xs) ≡ filter (λ y. p y && q y) xs
        → filter q (filter p (x ∷ xs)) ≡ filter (λ y. p y && q y) (x ∷ xs)
    by true e same = rw (e, same) refl
    by false e same = rw (e, same) refl

max-test : (m n k : ℕ) → (nat_le m k && nat_le n k) ≡ nat_le (max m n) k
max-test m n k = grind (arith, nat_tests)

-- of one moment or later, and of another
pub since-max : {A : Type 0} (f : A → ℕ) (m n : ℕ) (xs : List A)
    → filter (is_since f n) (filter (is_since f m) xs) ≡ filter (is_since f (max m n)) xs
since-max f m n xs =
    filter-both (is_since f m) (is_since f n) xs
    ∙ filter-alike (λ x. is_since f m x && is_since f n x) (is_since f (max m n)) (λ x. max-test m n (f x)) xs

-- what is kept of what is kept
pub kept-since : {A : Type 0} (f : A → ℕ) (m n : ℕ) (xs : List A) (o : Option A)
    → filter (is_since f n) (kept f m xs o)
    ≡ filter (is_since f (max m n)) xs ++ filter (is_since f n) (option_to_list o)
kept-since f m n xs o =
    filter-append (is_since f n) (filter (is_since f m) xs) (option_to_list o)
    ∙ ap (λ ys. ys ++ filter (is_since f n) (option_to_list o)) (since-max f m n xs)

pub count-kept : {A : Type 0} (f : A → ℕ) (m n : ℕ) (xs : List A) (o : Option A)
    → count_by (is_since f n) (kept f m xs o)
    ≡ count_by (is_since f (max m n)) xs + count_by (is_since f n) (option_to_list o)
count-kept f m n xs o =
    let one = length-filter (is_since f n) (kept f m xs o) in
    let two = length-filter (is_since f (max m n)) xs in
    let three = length-filter (is_since f n) (option_to_list o) in
    let both = length-append (filter (is_since f (max m n)) xs) (filter (is_since f n) (option_to_list o)) in
    sym one ∙ ap (λ ys. length ys) (kept-since f m n xs o) ∙ both
    ∙ rw (two, three) refl

pub count-all : {A : Type 0} (f : A → ℕ) (xs : List A) → count_by (is_since f 0) xs ≡ length xs
count-all f xs = sym (length-filter (is_since f 0) xs) ∙ ap (λ ys. length ys) (since-zero f xs)

-- of a whole list all is there
pub kept-zero : {A : Type 0} (f : A → ℕ) (xs : List A) → kept f 0 xs None ≡ xs
kept-zero f xs = append-nil (filter (is_since f 0) xs) ∙ since-zero f xs

pub record AreWhole {A : Type 0} (f : A → ℕ) (since : ℕ) (xs : List A) (o : Option A) : Type 0 where
  pub all : kept f since xs o ≡ xs
  pub none : o ≡ None
  pub zero : since ≡ 0

pub are-whole : {A : Type 0} (f : A → ℕ) (since : ℕ) (xs : List A) (o : Option A)
    → is_whole since o ≡ true → AreWhole f since xs o
are-whole f since xs None e =
    let zero : since ≡ 0 = eqb-true since 0 e in
    record { all = rw zero (kept-zero f xs); none = refl; zero = zero }
are-whole f since xs (Some x) e = absurd cc

-- where there is room, none came after
pub room-none : {A : Type 0} (room : ℕ) (o : Option A) → 0 < kept_room room o → o ≡ None
room-none room None e = refl
room-none room (Some x) e = absurd (omega (arith, e))

pub room-since : {A : Type 0} (p : A → Bool) (room : ℕ) (o left : Option A)
    → option_to_list left ≡ filter p (option_to_list o) → kept_room room o ≤ kept_room room left
room-since p room None None e = omega arith
room-since p room None (Some x) e = absurd cc
room-since p room (Some y) left e = omega arith

-- one more comes
pub kept-push : {A : Type 0} (f : A → ℕ) (xs : List A) (x : A)
    → kept f 0 (xs ++ x ∷ []) None ≡ kept f 0 xs None ++ x ∷ []
kept-push f xs x = kept-zero f (xs ++ x ∷ []) ∙ ap (λ ys. ys ++ x ∷ []) (sym (kept-zero f xs))

pub kept-after : {A : Type 0} (f : A → ℕ) (m : ℕ) (xs : List A) (x : A)
    → kept f m xs (Some x) ≡ kept f m xs None ++ x ∷ []
kept-after f m xs x = ap (λ ys. ys ++ x ∷ []) (sym (append-nil (filter (is_since f m) xs)))

-- the first one of a whole list goes
pub kept-drop : {A : Type 0} (f : A → ℕ) (since : ℕ) (xs : List A) (o : Option A)
    → is_whole since o ≡ true → kept f since (drop 1 xs) o ≡ drop 1 (kept f since xs o)
kept-drop f since xs o e =
    (are-whole f since (drop 1 xs) o e).all
    ∙ ap (λ ys. drop 1 ys) (sym ((are-whole f since xs o e).all))

-- what is sought among those that are kept
pub find-here : {A : Type 0} (p q : A → Bool) (x : A) (xs : List A) → (q x && p x) ≡ true
    → Some x ≡ find p (filter q (x ∷ xs))
find-here p q x xs e = by (q x) (p x) refl refl e
  where
    by : (b c : Bool) → q x ≡ b → p x ≡ c → (b && c) ≡ true → Some x ≡ find p (filter q (x ∷ xs))
    by true true e f both = rw (e, f) refl
    by true false e f both = absurd cc
    by false c e f both = absurd cc

pub find-skip : {A : Type 0} (p q : A → Bool) (x : A) (xs : List A) → (q x && p x) ≡ false
    → find p (filter q (x ∷ xs)) ≡ find p (filter q xs)
find-skip p q x xs e = by (q x) (p x) refl refl e
  where
    by : (b c : Bool) → q x ≡ b → p x ≡ c → (b && c) ≡ false
        → find p (filter q (x ∷ xs)) ≡ find p (filter q xs)
    by true true e f neither = absurd cc
    by true false e f neither = rw (e, f) refl
    by false c e f neither = rw e refl

pub find_kept : {A : Type 0} (p : A → Bool) (f : A → ℕ) (since : ℕ) (xs : List A) (o : Option A)
    → find p (kept f since xs o)
    ≡ option_or (find p (filter (is_since f since) xs)) (find p (option_to_list o))
find_kept p f since xs o = find-append p (filter (is_since f since) xs) (option_to_list o)
