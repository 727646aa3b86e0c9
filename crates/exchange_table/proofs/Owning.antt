-- The owners of pieces: what is known of the pieces by them, and that they stay theirs.
use Rattle.std.proofs.Common.{◌≡◌, ◌≢◌, ℕ, zero, suc, ◌<◌, ◌≤◌, Bool, true, false, not, cond, eqb, List, [], ◌∷◌, ◌++◌, length, take, drop, Option, Some, None, inl, inr, refl, sym, ap, subst, ◌∙◌, ◌&&◌, ◌||◌, arith}
use Rattle.std.specs.Prelude.{filter, insert, is_some, IfSome}
use Rattle.std.specs.List.{AllByRecursion, list_any}
use Rattle.std.proofs.lemmas.Bool.{eqb-true, false≢true, ne_eqb}
use Rattle.std.proofs.lemmas.Bool.Decides.{eqb_tells}
use Rattle.std.proofs.lemmas.List.Sums.{length-filter, count_by-le-length}
use Rattle.history_laws.proofs.CallerLemmas.{all-more}
use Rattle.exchange_model.specs.declared.kept.Exchange.{Exchange}
use Rattle.exchange_model.specs.declared.kept.Piece.{Piece}
use Rattle.exchange_model.specs.Matters.{is_piece_of}
use Rattle.exchange_model.specs.Hearing.{is_of_none}
use Rattle.exchange_table.specs.Fetched.{AreOwned, is_not_of, is_number, is_of_another, itself}
use Rattle.exchange_table.specs.Places.{RiseBy, IsNowhere, IsOnlyAt}
use Rattle.exchange_table.specs.Tables.{is_opened_at}
use Rattle.exchange_table.proofs.Grouping.{all-insert, filter-alike}
use Rattle.exchange_table.proofs.Searching.{all-of, any-with, or-false, or-first, or-second, same-as}
use Rattle.exchange_table.proofs.Standing.{Tells, any-none, any-only, filter-none, only-is, rise-filter}

pub number-tells : (o : ℕ) → Tells itself o (is_number o)
number-tells o n e = eqb-true n o e

-- whether there is one

pub any-some : (q : ℕ → Bool) (xs : List ℕ) (found : Option ℕ) → IfSome found (IsOnlyAt q xs) → (found ≡ None → IsNowhere q xs) → is_some found ≡ list_any q xs
any-some q xs None some none = sym (any-none q q xs (λ n e. e) (none refl))
any-some q [] (Some i) some none = absurd some
any-some q (x ∷ xs) (Some i) some none = sym (any-only q q (x ∷ xs) i x (λ n e. e) some ∙ only-is q (x ∷ xs) i x some)

pub nowhere-any : {X : Type 0} (q : X → Bool) (xs : List X) → list_any q xs ≡ false → IsNowhere q xs
nowhere-any q [] h = tt
nowhere-any {X = X} q (x ∷ xs) h = by (q x) refl h (nowhere-any q xs)
  where
    by : (b : Bool) → q x ≡ b → (b || list_any q xs) ≡ false → (list_any q xs ≡ false → IsNowhere q xs) → (q x ≡ false) × IsNowhere q xs
    by true is e f = absurd (false≢true (sym e))
    by false is e f = (is, f e)

-- one owner more

greater : (a b : ℕ) → a ≤ b → b ≢ a → a < b
greater zero zero le d = absurd (d refl)
greater zero (suc b) le d = omega arith
greater (suc a) zero le d = absurd (omega (arith, le))
greater (suc a) (suc b) le d = let rest = greater a b (omega (arith, le)) (λ e. d (ap suc e)) in omega (arith, rest)

pub rise-insert : (o : ℕ) (xs : List ℕ) (i : ℕ) → AllByRecursion (λ (n : ℕ). n < o) (take i xs) → AllByRecursion (λ (n : ℕ). o ≤ n) (drop i xs)
    → IsNowhere (is_number o) xs → RiseBy itself xs → RiseBy itself (insert xs i o)
rise-insert o [] zero before from none r = (tt, tt)
rise-insert o [] (suc i) before from none r = (tt, tt)
rise-insert o (x ∷ xs) zero before from none r =
    let least = from.0 in
    let above : o < x = greater o x least (λ e. false≢true (sym none.0 ∙ same-as x o e)) in
    ((above, all-more (λ (n : ℕ). x < n) (λ (n : ℕ). o < n) (λ n lt. omega (arith, lt, above)) xs r.0), r)
rise-insert o (x ∷ xs) (suc i) before from none r =
    (all-insert (λ (n : ℕ). x < n) xs i o r.0 before.0, rise-insert o xs i before.1 from none.1 r.1)

or-turned : (b c : Bool) → (b || c) ≡ (c || b)
or-turned true true = refl
or-turned true false = refl
or-turned false true = refl
or-turned false false = refl

pub any-insert : (q : ℕ → Bool) (xs : List ℕ) (i : ℕ) (y : ℕ) → list_any q (insert xs i y) ≡ (list_any q xs || q y)
any-insert q [] zero y = or-false (q y)
any-insert q [] (suc i) y = or-false (q y)
any-insert q (x ∷ xs) zero y = or-turned (q y) (q x || list_any q xs)
any-insert q (x ∷ xs) (suc i) y = by (q x) (any-insert q xs i y)
  where
    by : (b : Bool) → list_any q (insert xs i y) ≡ (list_any q xs || q y) → (b || list_any q (insert xs i y)) ≡ ((b || list_any q xs) || q y)
    by true h = refl
    by false h = h

-- what is an owner already
pub noted-already : (p : ℕ) (os : List ℕ) → list_any (is_number p) os ≡ true → (o : ℕ) → list_any (is_number o) os ≡ (list_any (is_number o) os || is_number o p)
noted-already p os there o = by (is_number o p) refl
  where
    by : (b : Bool) → is_number o p ≡ b → list_any (is_number o) os ≡ (list_any (is_number o) os || b)
    by true is = subst (λ (k : ℕ). list_any (is_number k) os ≡ true) (eqb-true p o is) there ∙ sym (or-second (list_any (is_number o) os) true refl)
    by false is = sym (or-false (list_any (is_number o) os))

pub owned-none : AreOwned [] []
owned-none = record { order = tt; each = λ o. refl }

pub owned-push : (xs : List Piece) (os ps : List ℕ) (x : Piece) → AreOwned xs os → RiseBy itself ps
    → ((o : ℕ) → list_any (is_number o) ps ≡ (list_any (is_number o) os || is_number o x.opening)) → AreOwned (xs ++ x ∷ []) ps
owned-push xs os ps x owned order noted = record {
  order = order;
  each = λ o. noted o ∙ ap (λ (b : Bool). b || is_number o x.opening) (owned.each o) ∙ sym (any-with (is_piece_of o) xs x);
}

-- Where an exchange is no owner, no piece is of it.

pub none-owned : (o : ℕ) (xs : List Piece) (os : List ℕ) → AreOwned xs os → IsNowhere (is_number o) os → IsNowhere (is_piece_of o) xs
none-owned o xs os owned none =
    nowhere-any (is_piece_of o) xs (sym (owned.each o) ∙ any-none (is_number o) (is_number o) os (λ n e. e) none)

pub none-left : {X : Type 0} (q : X → Bool) (xs : List X) → IsNowhere q xs → filter q xs ≡ []
none-left q [] a = refl
none-left q (x ∷ xs) a = rw a.0 (none-left q xs a.1)

pub all-stay : (o : ℕ) (xs : List Piece) → IsNowhere (is_piece_of o) xs → filter (is_not_of o) xs ≡ xs
all-stay o xs none = filter-none (is_piece_of o) xs none

-- some fewer

any-left : {X : Type 0} (n : X → ℕ) (q : ℕ → Bool) (o : ℕ) (xs : List X)
    → list_any (λ x. eqb (n x) o) (filter (λ x. q (n x)) xs) ≡ (q o && list_any (λ x. eqb (n x) o) xs)
any-left n q o [] = sym (and-false (q o))
  where
    and-false : (b : Bool) → (b && false) ≡ false
    and-false true = refl
    and-false false = refl
any-left {X = X} n q o (x ∷ xs) = by (q (n x)) (eqb (n x) o) refl refl (any-left n q o xs)
  where
    by : (b c : Bool) → q (n x) ≡ b → eqb (n x) o ≡ c
        → list_any (λ y. eqb (n y) o) (filter (λ y. q (n y)) xs) ≡ (q o && list_any (λ y. eqb (n y) o) xs)
        → list_any (λ y. eqb (n y) o) (cond b (x ∷ filter (λ y. q (n y)) xs) (filter (λ y. q (n y)) xs)) ≡ (q o && (c || list_any (λ y. eqb (n y) o) xs))
    by true true is at h =
        or-first (eqb (n x) o) (list_any (λ y. eqb (n y) o) (filter (λ y. q (n y)) xs)) at
        ∙ sym (ap (λ (b : Bool). b && true) (sym (ap q (eqb-true (n x) o at)) ∙ is))
    by true false is at h = ap (λ (b : Bool). b || list_any (λ y. eqb (n y) o) (filter (λ y. q (n y)) xs)) at ∙ h
    by false true is at h =
        let no : q o ≡ false = sym (ap q (eqb-true (n x) o at)) ∙ is in
        h ∙ ap (λ (b : Bool). b && list_any (λ y. eqb (n y) o) xs) no ∙ sym (ap (λ (b : Bool). b && true) no)
    by false false is at h = h

owned-filter : (p : Piece → Bool) (q : ℕ → Bool) (xs : List Piece) (os : List ℕ) → ((x : Piece) → p x ≡ q x.opening) → AreOwned xs os
    → AreOwned (filter p xs) (filter q os)
owned-filter p q xs os same owned = record {
  order = rise-filter itself q os owned.order;
  each = λ o. any-left itself q o os ∙ ap (λ (b : Bool). q o && b) (owned.each o) ∙ sym (any-left (λ (x : Piece). x.opening) q o xs)
      ∙ ap (list_any (is_piece_of o)) (sym (filter-alike p (λ (x : Piece). q x.opening) xs (all-of {P = λ (x : Piece). p x ≡ q x.opening} xs same)));
}

pub owned-drop : (o : ℕ) (xs : List Piece) (os : List ℕ) → AreOwned xs os → AreOwned (filter (is_not_of o) xs) (filter (λ n. not (is_number o n)) os)
owned-drop o xs os owned = owned-filter (is_not_of o) (λ n. not (is_number o n)) xs os (λ x. refl) owned

-- of none of these exchanges, by its opening
turned : (a b : ℕ) → eqb a b ≡ eqb b a
turned a b = elim (eqb_tells a b) [
  | inl w ↦ w.0 ∙ sym (same-as b a (sym w.1))
  | inr w ↦ w.0 ∙ sym (ne_eqb b a (λ e. w.1 (sym e)))
]

any-turned : (x : Piece) (es : List Exchange) → list_any (λ (e : Exchange). is_piece_of e.opening x) es ≡ list_any (is_opened_at x.opening) es
any-turned x [] = refl
any-turned x (e ∷ es) =
    ap (λ (b : Bool). b || list_any (λ (f : Exchange). is_piece_of f.opening x) es) (turned x.opening e.opening)
    ∙ ap (λ (b : Bool). eqb e.opening x.opening || b) (any-turned x es)

of-none : (es : List Exchange) (x : Piece) → is_of_none es x ≡ is_of_another es x.opening
of-none es x = ap not (any-turned x es)

pub owned-all : (es : List Exchange) (xs : List Piece) (os : List ℕ) → AreOwned xs os → AreOwned (filter (is_of_none es) xs) (filter (is_of_another es) os)
owned-all es xs os owned = owned-filter (is_of_none es) (is_of_another es) xs os (of-none es) owned

-- Where as many owners are left, none was an owner.

filter-fewer : {X : Type 0} (p : X → Bool) (xs : List X) → length (filter p xs) ≤ length xs
filter-fewer p xs = let is = length-filter p xs in let le = count_by-le-length p xs in omega (arith, is, le)

all-left : {X : Type 0} (p : X → Bool) (xs : List X) → length xs ≤ length (filter p xs) → AllByRecursion (λ x. p x ≡ true) xs
all-left p [] le = tt
all-left {X = X} p (x ∷ xs) le = by (p x) refl le (all-left p xs)
  where
    by : (b : Bool) → p x ≡ b → suc (length xs) ≤ length (cond b (x ∷ filter p xs) (filter p xs))
        → (length xs ≤ length (filter p xs) → AllByRecursion (λ y. p y ≡ true) xs) → AllByRecursion (λ y. p y ≡ true) (x ∷ xs)
    by true is h f = (is, f (omega (arith, h)))
    by false is h f = absurd (let few = filter-fewer p xs in omega (arith, h, few))

any-passes : (p : ℕ → Bool) (o : ℕ) (os : List ℕ) → AllByRecursion (λ (n : ℕ). p n ≡ true) os → list_any (is_number o) os ≡ true → p o ≡ true
any-passes p o [] a h = absurd (false≢true h)
any-passes p o (n ∷ os) a h = by (is_number o n) refl h (any-passes p o os a.1)
  where
    by : (b : Bool) → is_number o n ≡ b → (b || list_any (is_number o) os) ≡ true → (list_any (is_number o) os ≡ true → p o ≡ true) → p o ≡ true
    by true is e f = ap p (sym (eqb-true n o is)) ∙ a.0
    by false is e f = f e

filter-passes : {X : Type 0} (p : X → Bool) (xs : List X) → AllByRecursion (λ x. p x ≡ true) xs → filter p xs ≡ xs
filter-passes p [] a = refl
filter-passes p (x ∷ xs) a = rw a.0 (ap (λ (ys : List _). x ∷ ys) (filter-passes p xs a.1))

-- each piece is there
each-there : (xs : List Piece) → AllByRecursion (λ (x : Piece). list_any (is_piece_of x.opening) xs ≡ true) xs
each-there [] = tt
each-there (x ∷ xs) = (
  or-first (is_piece_of x.opening x) (list_any (is_piece_of x.opening) xs) (same-as x.opening x.opening refl),
  all-more (λ (y : Piece). list_any (is_piece_of y.opening) xs ≡ true) (λ (y : Piece). list_any (is_piece_of y.opening) (x ∷ xs) ≡ true)
      (λ y h. or-second (is_piece_of y.opening x) (list_any (is_piece_of y.opening) xs) h) xs (each-there xs),
)

pub none-over : (es : List Exchange) (xs : List Piece) (os : List ℕ) → AreOwned xs os → length os ≤ length (filter (is_of_another es) os)
    → (filter (is_of_none es) xs ≡ xs) × AreOwned xs (filter (is_of_another es) os)
none-over es xs os owned as_many =
    let left = all-left (is_of_another es) os as_many in (
      filter-passes (is_of_none es) xs
          (all-more (λ (x : Piece). list_any (is_piece_of x.opening) xs ≡ true) (λ (x : Piece). is_of_none es x ≡ true)
          (λ x h. of-none es x ∙ any-passes (is_of_another es) x.opening os left (owned.each x.opening ∙ h)) xs (each-there xs)),
      subst (AreOwned xs) (sym (filter-passes (is_of_another es) os left)) owned,
    )
