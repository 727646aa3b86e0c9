-- What a search through a list finds, where the list grows, is mapped or filtered.
use Rattle.std.proofs.Common.{◌≡◌, ◌≢◌, ℕ, zero, suc, ◌<◌, Bool, true, false, not, cond, eqb, List, [], ◌∷◌, ◌++◌, length, map, get_or, Option, Some, None, inl, inr, refl, sym, ap, subst, ◌∙◌, ◌||◌, arith}
use Rattle.std.specs.Prelude.{filter}
use Rattle.std.specs.List.{AllByRecursion, find, list_any}
use Rattle.std.proofs.lemmas.Bool.{eq-eqb, false≢true}
use Rattle.std.proofs.lemmas.Bool.Decides.{eqb_tells}
use Rattle.history_laws.proofs.CallerLemmas.{all-more, all-push}
use Rattle.exchange_table.specs.Places.{RiseBy, IsNowhere}

pub some-is : {X : Type 0} (a b : X) → Some a ≡ Some b → a ≡ b
some-is a b e = ap (by a) e
  where
    by : {X : Type 0} → X → Option X → X
    by d None = d
    by d (Some x) = x

pub none-some : {X : Type 0} (a : X) → None ≡ Some a → ⊥
none-some a e = subst by e tt
  where
    by : {X : Type 0} → Option X → Type 0
    by None = Unit {0}
    by (Some x) = ⊥

pub each-so : {X : Type 0} {P : X → Type 0} (Q : X → Type 0) (xs : List X) → AllByRecursion P xs → ((x : X) → P x → Q x) → AllByRecursion Q xs
each-so {P = P} Q xs a more = all-more P Q more xs a

pub both-hold : {X : Type 0} (P Q : X → Type 0) (xs : List X) → AllByRecursion P xs → AllByRecursion Q xs → AllByRecursion (λ x. P x × Q x) xs
both-hold P Q [] p q = tt
both-hold P Q (x ∷ xs) p q = ((p.0, q.0), both-hold P Q xs p.1 q.1)

pub filter-if : {X : Type 0} (P : X → Type 0) (q : X → Bool) (xs : List X) → AllByRecursion (λ x. q x ≡ true → P x) xs → AllByRecursion P (filter q xs)
filter-if P q [] a = tt
filter-if {X = X} P q (x ∷ xs) a = by (q x) refl (filter-if P q xs a.1)
  where
    by : (b : Bool) → q x ≡ b → AllByRecursion P (filter q xs) → AllByRecursion P (cond b (x ∷ filter q xs) (filter q xs))
    by true is h = (a.0 is, h)
    by false is h = h

pub map-all : {X Y : Type 0} (P : Y → Type 0) (f : X → Y) (xs : List X) → AllByRecursion (λ x. P (f x)) xs → AllByRecursion P (map f xs)
map-all P f [] a = tt
map-all P f (x ∷ xs) a = (a.0, map-all P f xs a.1)

pub find-filter : {X : Type 0} (p q : X → Bool) (xs : List X) (y : X) → find p xs ≡ Some y → q y ≡ true → find p (filter q xs) ≡ Some y
find-filter p q [] y e h = e
find-filter {X = X} p q (x ∷ xs) y e h = by (p x) (q x) refl refl e (λ f. find-filter p q xs y f h)
  where
    by : (b c : Bool) → p x ≡ b → q x ≡ c → cond b (Some x) (find p xs) ≡ Some y
        → (find p xs ≡ Some y → find p (filter q xs) ≡ Some y) → find p (cond c (x ∷ filter q xs) (filter q xs)) ≡ Some y
    by true true is keeps e f = rw is e
    by true false is keeps e f = absurd (false≢true (sym keeps ∙ ap q (some-is x y e) ∙ h))
    by false true is keeps e f = rw is (f e)
    by false false is keeps e f = f e

pub or-first : (b c : Bool) → b ≡ true → (b || c) ≡ true
or-first true c e = refl
or-first false c e = absurd (false≢true e)

pub or-second : (b c : Bool) → c ≡ true → (b || c) ≡ true
or-second true c e = refl
or-second false c e = e

pub any-if : {X : Type 0} (p q : X → Bool) (xs : List X) → AllByRecursion (λ x. p x ≡ true → q x ≡ true) xs → list_any p xs ≡ true → list_any q xs ≡ true
any-if p q [] a e = e
any-if {X = X} p q (x ∷ xs) a e = by (p x) refl e (any-if p q xs a.1)
  where
    by : (b : Bool) → p x ≡ b → (b || list_any p xs) ≡ true → (list_any p xs ≡ true → list_any q xs ≡ true) → (q x || list_any q xs) ≡ true
    by true is h f = or-first (q x) (list_any q xs) (a.0 is)
    by false is h f = or-second (q x) (list_any q xs) (f h)

pub any-filter : {X : Type 0} (p q : X → Bool) (xs : List X) → AllByRecursion (λ x. p x ≡ true → q x ≡ true) xs → list_any p xs ≡ true → list_any p (filter q xs) ≡ true
any-filter p q [] a e = e
any-filter {X = X} p q (x ∷ xs) a e = by (p x) (q x) refl refl e (any-filter p q xs a.1)
  where
    by : (b c : Bool) → p x ≡ b → q x ≡ c → (b || list_any p xs) ≡ true → (list_any p xs ≡ true → list_any p (filter q xs) ≡ true)
        → list_any p (cond c (x ∷ filter q xs) (filter q xs)) ≡ true
    by true true is keeps h f = or-first (p x) (list_any p (filter q xs)) is
    by true false is keeps h f = absurd (false≢true (sym keeps ∙ a.0 is))
    by false true is keeps h f = or-second (p x) (list_any p (filter q xs)) (f h)
    by false false is keeps h f = f h

pub any-map : {X : Type 0} (p : X → Bool) (f : X → X) (xs : List X) → ((x : X) → p x ≡ p (f x)) → list_any p xs ≡ true → list_any p (map f xs) ≡ true
any-map p f [] same e = e
any-map p f (x ∷ xs) same e = by (p x) (same x) e (any-map p f xs same)
  where
    by : (b : Bool) → b ≡ p (f x) → (b || list_any p xs) ≡ true → (list_any p xs ≡ true → list_any p (map f xs) ≡ true) → (p (f x) || list_any p (map f xs)) ≡ true
    by true is h g = or-first (p (f x)) (list_any p (map f xs)) (sym is)
    by false is h g = or-second (p (f x)) (list_any p (map f xs)) (g h)

pub any-mapped : {X : Type 0} (p : X → Bool) (f : X → X) (xs : List X) → ((x : X) → p x ≡ true → p (f x) ≡ true) → list_any p xs ≡ true → list_any p (map f xs) ≡ true
any-mapped p f [] keeps e = e
any-mapped {X = X} p f (x ∷ xs) keeps e = by (p x) refl e (any-mapped p f xs keeps)
  where
    by : (b : Bool) → p x ≡ b → (b || list_any p xs) ≡ true → (list_any p xs ≡ true → list_any p (map f xs) ≡ true) → (p (f x) || list_any p (map f xs)) ≡ true
    by true is h g = or-first (p (f x)) (list_any p (map f xs)) (keeps x is)
    by false is h g = or-second (p (f x)) (list_any p (map f xs)) (g h)

pub any-there : {X : Type 0} (p : X → Bool) (f : X → X) (xs : List X) (i : ℕ) (d : X) → i < length xs → p (f (get_or xs i d)) ≡ true → list_any p (map f xs) ≡ true
any-there p f [] i d lt e = absurd (omega (arith, lt))
any-there p f (x ∷ xs) zero d lt e = or-first (p (f x)) (list_any p (map f xs)) e
any-there p f (x ∷ xs) (suc i) d lt e = or-second (p (f x)) (list_any p (map f xs)) (any-there p f xs i d (omega (arith, lt)) e)

pub any-push : {X : Type 0} (p : X → Bool) (xs : List X) (y : X) → list_any p xs ≡ true → list_any p (xs ++ y ∷ []) ≡ true
any-push p [] y e = absurd (false≢true e)
any-push p (x ∷ xs) y e = by (p x) e (any-push p xs y)
  where
    by : (b : Bool) → (b || list_any p xs) ≡ true → (list_any p xs ≡ true → list_any p (xs ++ y ∷ []) ≡ true) → (b || list_any p (xs ++ y ∷ [])) ≡ true
    by true h f = refl
    by false h f = f h

pub any-last : {X : Type 0} (p : X → Bool) (xs : List X) (y : X) → p y ≡ true → list_any p (xs ++ y ∷ []) ≡ true
any-last p [] y e = or-first (p y) false e
any-last p (x ∷ xs) y e = or-second (p x) (list_any p (xs ++ y ∷ [])) (any-last p xs y e)

pub find-push : {X : Type 0} (p : X → Bool) (xs : List X) (x y : X) → find p xs ≡ Some x → find p (xs ++ y ∷ []) ≡ Some x
find-push p [] x y e = absurd (none-some x e)
find-push p (z ∷ zs) x y e = by (p z) e (find-push p zs x y)
  where
    by : (b : Bool) → cond b (Some z) (find p zs) ≡ Some x → (find p zs ≡ Some x → find p (zs ++ y ∷ []) ≡ Some x) → cond b (Some z) (find p (zs ++ y ∷ [])) ≡ Some x
    by true h f = h
    by false h f = f h

pub all-found : {X : Type 0} (P : X → Type 0) (p : X → Bool) (xs : List X) (y : X)
    → AllByRecursion P xs → find p xs ≡ Some y → P y
all-found P p [] y a e = absurd (none-some y e)
all-found P p (x ∷ xs) y a e = by (p x) e (all-found P p xs y a.1)
  where
    by : (b : Bool) → cond b (Some x) (find p xs) ≡ Some y → (find p xs ≡ Some y → P y) → P y
    by true h f = subst P (some-is x y h) a.0
    by false h f = f h

pub find-last : {X : Type 0} (p : X → Bool) (xs : List X) (y : X) → IsNowhere p xs → p y ≡ true → find p (xs ++ y ∷ []) ≡ Some y
find-last p [] y none e = rw e refl
find-last p (x ∷ xs) y none e = rw none.0 (find-last p xs y none.1 e)

pub rise-push : {X : Type 0} (n : X → ℕ) (xs : List X) (y : X) → RiseBy n xs → AllByRecursion (λ x. n x < n y) xs → RiseBy n (xs ++ y ∷ [])
rise-push n [] y r above = (tt, tt)
rise-push n (x ∷ xs) y r above = (all-push (λ z. n x < n z) xs y r.0 above.0, rise-push n xs y r.1 above.1)

pub same-as : (a b : ℕ) → a ≡ b → eqb a b ≡ true
same-as a b e = eq-eqb a b e

pub below-other : (a b : ℕ) → a < b → eqb a b ≡ false
below-other a b lt = elim (eqb_tells a b) [ inl w ↦ absurd (let same = w.1 in omega (arith, lt, same)) | inr w ↦ w.0 ]

pub unequal : (a b : ℕ) → a ≢ b → not (eqb a b) ≡ true
unequal a b differs = elim (eqb_tells a b) [ inl w ↦ absurd (differs w.1) | inr w ↦ ap not w.0 ]

pub eqb-not : (a b : ℕ) → not (eqb a b) ≡ true → a ≢ b
eqb-not a b h e = false≢true (sym (ap not (same-as a b e)) ∙ h)

pub all-of : {X : Type 0} {P : X → Type 0} (xs : List X) → ((x : X) → P x) → AllByRecursion P xs
all-of [] f = tt
all-of (x ∷ xs) f = (f x, all-of xs f)

pub or-false : (b : Bool) → (b || false) ≡ b
or-false true = refl
or-false false = refl

pub any-with : {X : Type 0} (q : X → Bool) (xs : List X) (x : X) → list_any q (xs ++ x ∷ []) ≡ (list_any q xs || q x)
any-with q [] x = or-false (q x)
any-with q (y ∷ xs) x = by (q y) (any-with q xs x)
  where
    by : (b : Bool) → list_any q (xs ++ x ∷ []) ≡ (list_any q xs || q x) → (b || list_any q (xs ++ x ∷ [])) ≡ ((b || list_any q xs) || q x)
    by true h = refl
    by false h = h
