-- Where a place has no hint there is no watch of it, and hints stay those of the watches.
use Rattle.std.proofs.Common.{◌≡◌, ℕ, zero, suc, ◌+◌, ◌/◌, ◌%◌, ◌<◌, ◌≤◌, Bool, true, false, not, cond, ◌&&◌, ◌||◌, List, [], ◌∷◌, ◌++◌, length, map, Option, Some, None, Any, inl, inr, refl, sym, ap, subst, ◌∙◌, set, take, drop, get_or, arith}
use Rattle.std.specs.Prelude.{filter, slice_get}
use Rattle.std.specs.List.{AllByRecursion, list_any, remove}
use Rattle.std.proofs.lemmas.Bool.{false≢true}
use Rattle.std.proofs.lemmas.Bool.Decides.{eqb_tells}
use Rattle.std.proofs.lemmas.List.{length-append, length-map, length-set, get_or-set_same, get_or-set_other, get_or_default}
use Rattle.std.proofs.lemmas.List.Elements.{All-from_recursion, All-set}
use Rattle.cache_key.specs.Digests.{rank_of}
use Rattle.cache_key.specs.Keys.{CacheKey, same_place}
use Rattle.cache_key.proofs.CallerLemmas.{places_decided, ranked_by_place}
use Rattle.observe_share.specs.declared.registration.Registration.{Registration}
use Rattle.observe_share.specs.Hints.{AreHinted, IsFirstAsked, IsKept, IsUnwatched, is_hinted, is_set}
use Rattle.observe_share.specs.Watches.{asked_at, is_at, is_of, without}
use Rattle.observe_share.proofs.First.{length-filtered}

pub and-second : (b c : Bool) → (b && c) ≡ true → c ≡ true
and-second true c h = h
and-second false c h = absurd (false≢true h)

-- all of them

pub all-more : {X : Type 0} (P Q : X → Type 0) → ((x : X) → P x → Q x) → (xs : List X) → AllByRecursion P xs → AllByRecursion Q xs
all-more P Q f [] a = tt
all-more P Q f (x ∷ xs) a = (f x a.0, all-more P Q f xs a.1)

pub all-filter : {X : Type 0} (P : X → Type 0) (q : X → Bool) (xs : List X) → AllByRecursion P xs → AllByRecursion P (filter q xs)
all-filter P q [] a = tt
all-filter {X = X} P q (x ∷ xs) a = by (q x) (all-filter P q xs a.1)
  where
    by : (b : Bool) → AllByRecursion P (filter q xs) → AllByRecursion P (cond b (x ∷ filter q xs) (filter q xs))
    by true h = (a.0, h)
    by false h = h

pub all-push : {X : Type 0} (P : X → Type 0) (xs : List X) (y : X) → AllByRecursion P xs → P y → AllByRecursion P (xs ++ y ∷ [])
all-push P [] y a h = (h, tt)
all-push P (x ∷ xs) y a h = (a.0, all-push P xs y a.1 h)

pub all-remove : {X : Type 0} (P : X → Type 0) (xs : List X) (i : ℕ) → AllByRecursion P xs → AllByRecursion P (remove xs i)
all-remove P [] zero a = tt
all-remove P [] (suc i) a = tt
all-remove P (x ∷ xs) zero a = a.1
all-remove P (x ∷ xs) (suc i) a = (a.0, all-remove P xs i a.1)

-- hints

pub hint-set : (hs : List Bool) (i : ℕ) → i < length hs → is_set (slice_get (set hs i true) i) ≡ true
hint-set [] i lt = absurd (omega (arith, lt))
hint-set (h ∷ hs) zero lt = refl
hint-set (h ∷ hs) (suc i) lt = hint-set hs i (omega (arith, lt))

pub hint-kept : (hs : List Bool) (i j : ℕ) → is_set (slice_get hs j) ≡ true → is_set (slice_get (set hs i true) j) ≡ true
hint-kept [] i j is = is
hint-kept (h ∷ hs) zero zero is = refl
hint-kept (h ∷ hs) zero (suc j) is = is
hint-kept (h ∷ hs) (suc i) zero is = is
hint-kept (h ∷ hs) (suc i) (suc j) is = hint-kept hs i j is

pub hints-more : (hs new : List Bool) (rs : List Registration) → ((k : ℕ) → is_hinted hs k ≡ true → is_hinted new k ≡ true) → AreHinted hs rs → AreHinted new rs
hints-more hs new rs kept a = all-more (λ (r : Registration). is_hinted hs (rank_of r.key) ≡ true) (λ (r : Registration). is_hinted new (rank_of r.key) ≡ true) (λ r h. kept (rank_of r.key) h) rs a

pub hints-asked : (hs : List Bool) (key : CacheKey) (t : ℕ) (rs : List Registration) → AreHinted hs rs → AreHinted hs (map (asked_at key t) rs)
hints-asked hs key t [] a = tt
hints-asked hs key t (r ∷ rs) a = (by (is_of key r), hints-asked hs key t rs a.1)
  where
    by : (b : Bool) → is_hinted hs (rank_of (cond b (record r { asked = t }) r).key) ≡ true
    by true = a.0
    by false = a.0

pub hints-set : (hs : List Bool) (rs : List Registration) (i : ℕ) (r : Registration) → AreHinted hs rs → is_hinted hs (rank_of r.key) ≡ true → AreHinted hs (set rs i r)
hints-set hs [] i r a h = tt
hints-set hs (q ∷ rs) zero r a h = (h, a.1)
hints-set hs (q ∷ rs) (suc i) r a h = (a.0, hints-set hs rs i r a.1 h)

-- no watch

pub unhinted : (hs : List Bool) (key : CacheKey) (rs : List Registration) → AreHinted hs rs → is_hinted hs (rank_of key) ≡ false → IsUnwatched key.place rs
unhinted hs key rs a none = all-more (λ (r : Registration). is_hinted hs (rank_of r.key) ≡ true) (λ (r : Registration). is_at key.place r ≡ false) one rs a
  where
    by : (r : Registration) (b : Bool) → same_place r.key.place key.place ≡ b → is_hinted hs (rank_of r.key) ≡ true → b ≡ false
    by r false e h = refl
    by r true e h =
        let same : r.key.place ≡ key.place = (places_decided r.key.place key.place).0 e in
        let row : rank_of r.key / 65536 ≡ rank_of key / 65536 = ranked_by_place r.key key same in
        absurd (false≢true (sym none ∙ (ap (λ (k : ℕ). is_set (slice_get hs (k % 1024))) (sym row) ∙ h)))

    one : (r : Registration) → is_hinted hs (rank_of r.key) ≡ true → is_at key.place r ≡ false
    one r h = by r (is_at key.place r) refl h

pub of-none : (key : CacheKey) (rs : List Registration) → IsUnwatched key.place rs → AllByRecursion (λ (r : Registration). is_of key r ≡ false) rs
of-none key rs a = all-more (λ (r : Registration). is_at key.place r ≡ false) (λ (r : Registration). is_of key r ≡ false) one rs a
  where
    one : (r : Registration) → is_at key.place r ≡ false → is_of key r ≡ false
    one r h = rw h refl

pub without-none : (p : Registration → Bool) (rs : List Registration) → AllByRecursion (λ (r : Registration). p r ≡ false) rs → without p rs ≡ rs
without-none p [] a = refl
without-none p (r ∷ rs) a = rw (a.0) (ap (λ (xs : List Registration). r ∷ xs) (without-none p rs a.1))

pub asked-none : (key : CacheKey) (t : ℕ) (rs : List Registration) → AllByRecursion (λ (r : Registration). is_of key r ≡ false) rs → map (asked_at key t) rs ≡ rs
asked-none key t [] a = refl
asked-none key t (r ∷ rs) a = rw (a.0) (ap (λ (xs : List Registration). r ∷ xs) (asked-none key t rs a.1))

none-idle-by : (p : Registration → Bool) (r : Registration) (rs : List Registration) (b : Bool) → p r ≡ b
    → (list_any p rs ≡ false → without p rs ≡ rs) → (b || list_any p rs) ≡ false → without p (r ∷ rs) ≡ r ∷ rs
none-idle-by p r rs true e f h = absurd (false≢true (sym h))
none-idle-by p r rs false e f h = rw e (ap (λ (xs : List Registration). r ∷ xs) (f h))

pub without-any : (p : Registration → Bool) (rs : List Registration) → list_any p rs ≡ false → without p rs ≡ rs
without-any p [] h = refl
without-any p (r ∷ rs) h = none-idle-by p r rs (p r) refl (without-any p rs) h

-- one after another

take-more : (rs : List Registration) (i : ℕ) (d : Registration) → i < length rs → take (suc i) rs ≡ take i rs ++ get_or rs i d ∷ []
take-more [] i d lt = absurd (omega (arith, lt))
take-more (r ∷ rs) zero d lt = refl
take-more (r ∷ rs) (suc i) d lt = ap (λ (xs : List Registration). r ∷ xs) (take-more rs i d (omega (arith, lt)))

pub hints-next : (hs new : List Bool) (rs : List Registration) (i : ℕ) (r : Registration) → i < length rs → r ≡ get_or rs i r
    → AreHinted hs (take i rs) → is_hinted new (rank_of r.key) ≡ true → ((k : ℕ) → is_hinted hs k ≡ true → is_hinted new k ≡ true) → AreHinted new (take (i + 1) rs)
hints-next hs new rs i r lt at a put kept =
    subst (AreHinted new) (ap (λ (x : Registration). take i rs ++ x ∷ []) at ∙ sym (take-more rs i r lt) ∙ ap (λ (k : ℕ). take k rs) more)
    (all-push (λ (x : Registration). is_hinted new (rank_of x.key) ≡ true) (take i rs) r (hints-more hs new (take i rs) kept a) put)
  where
    more : suc i ≡ i + 1
    more = omega arith

-- none of them

pub filter-none : (p : Registration → Bool) (rs : List Registration) → AllByRecursion (λ (r : Registration). p r ≡ false) rs → filter p rs ≡ []
filter-none p [] a = refl
filter-none p (r ∷ rs) a = rw (a.0) (filter-none p rs a.1)

-- what is written back at its place

all-back : {X : Type 0} (xs ys : List X) → length xs ≡ length ys → take (length ys) (xs ++ drop (length xs) ys) ≡ xs
all-back [] [] e = refl
all-back [] (y ∷ ys) e = absurd (omega (arith, e))
all-back (x ∷ xs) [] e = absurd (omega (arith, e))
all-back {X = X} (x ∷ xs) (y ∷ ys) e = ap (λ (zs : List X). x ∷ zs) (all-back xs ys (omega (arith, e)))

pub put-back : {X : Type 0} (xs ys : List X) (n : ℕ) → length xs ≡ length ys → n ≡ length ys → take n (xs ++ drop (length xs) ys) ≡ xs
put-back xs ys n e len = ap (λ (k : ℕ). take k (xs ++ drop (length xs) ys)) len ∙ all-back xs ys e

-- what stands beside the watches stays of them

pub kept-asked : (rs new : List Registration) (hs : List Bool) (first least : Option ℕ) (key : CacheKey) (t : ℕ) → IsKept rs hs first → new ≡ map (asked_at key t) rs
    → IsFirstAsked new least → IsKept new hs least
kept-asked rs new hs first least key t k are is = record {
  few = subst (λ (xs : List Registration). length xs ≤ 64) (sym are) (let n = length-map rs (asked_at key t) in let few = k.few in omega (arith, n, few));
  hinted = subst (AreHinted hs) (sym are) (hints-asked hs key t rs k.hinted);
  least = is;
}

pub kept-without : (rs new : List Registration) (hs : List Bool) (first least : Option ℕ) (p : Registration → Bool) → IsKept rs hs first → new ≡ without p rs
    → IsFirstAsked new least → IsKept new hs least
kept-without rs new hs first least p k are is = record {
  few = subst (λ (xs : List Registration). length xs ≤ 64) (sym are) (let n = length-filtered (λ (r : Registration). not (p r)) rs in let few = k.few in omega (arith, n, few));
  hinted = subst (AreHinted hs) (sym are) (all-filter (λ (r : Registration). is_hinted hs (rank_of r.key) ≡ true) (λ (r : Registration). not (p r)) rs k.hinted);
  least = is;
}

pub kept-push : (rs new : List Registration) (r : Registration) (hs hints : List Bool) (first least : Option ℕ) → IsKept rs hs first → length rs < 64 → new ≡ rs ++ r ∷ []
    → ((k : ℕ) → is_hinted hs k ≡ true → is_hinted hints k ≡ true) → is_hinted hints (rank_of r.key) ≡ true → IsFirstAsked new least → IsKept new hints least
kept-push rs new r hs hints first least k lt are kept put is = record {
  few = subst (λ (xs : List Registration). length xs ≤ 64) (sym are) (let n = length-append rs (r ∷ []) in omega (arith, n, lt));
  hinted = subst (AreHinted hints) (sym are) (all-push (λ (x : Registration). is_hinted hints (rank_of x.key) ≡ true) rs r (hints-more hs hints rs kept k.hinted) put);
  least = is;
}

-- one watch in the place of one that has its key and was asked for when that was
module _ (rs : List Registration) (i : ℕ) (r q : Registration) (lt : i < length rs) (read : r ≡ get_or rs i r) (alike : q.asked ≡ r.asked) where
  hinted-renewed : (hs : List Bool) → q.key ≡ r.key → AreHinted hs rs → AreHinted hs (set rs i q)
  hinted-renewed hs same a =
      let there : is_hinted hs (rank_of r.key) ≡ true = subst (λ (x : Registration). is_hinted hs (rank_of x.key) ≡ true) (sym read)
      (All-from_recursion (λ (x : Registration). is_hinted hs (rank_of x.key) ≡ true) rs a i r lt) in
      hints-set hs rs i q a (ap (λ (k : CacheKey). is_hinted hs (rank_of k)) same ∙ there)

  any-renewed : (t : ℕ) → Any (λ (x : Registration). x.asked ≡ t) rs → Any (λ (x : Registration). x.asked ≡ t) (set rs i q)
  any-renewed t h = elim (eqb_tells h.0 i) [
    | inl w ↦
        let it : h.1 ≡ r = sym h.3 ∙ ap (λ (k : ℕ). get_or rs k h.1) w.1 ∙ get_or_default rs i h.1 r lt ∙ sym read in
        (i, q, rw (length-set rs i q) lt, get_or-set_same rs i q q lt, alike ∙ ap (λ (x : Registration). x.asked) (sym it) ∙ h.4)
    | inr w ↦ (h.0, h.1, rw (length-set rs i q) (h.2), get_or-set_other rs i h.0 q h.1 w.1 ∙ h.3, h.4)
  ]

  least-renewed : (first : Option ℕ) → IsFirstAsked rs first → IsFirstAsked (set rs i q) first
  least-renewed None none = absurd (let n = ap (λ (xs : List Registration). length xs) none in omega (arith, n, lt))
  least-renewed (Some t) h =
      let there : t ≤ r.asked = subst (λ (x : Registration). t ≤ x.asked) (sym read) (h.1 i r lt) in
      (any-renewed t h.0, All-set (λ (x : Registration). t ≤ x.asked) rs i q (subst (λ (n : ℕ). t ≤ n) (sym alike) there) h.1)

  pub kept-renewed : (new : List Registration) (hs : List Bool) (first : Option ℕ) → IsKept rs hs first → q.key ≡ r.key → new ≡ set rs i q → IsKept new hs first
  kept-renewed new hs first k same are = record {
    few = subst (λ (xs : List Registration). length xs ≤ 64) (sym are) (let n = length-set rs i q in let few = k.few in omega (arith, n, few));
    hinted = subst (AreHinted hs) (sym are) (hinted-renewed hs same k.hinted);
    least = subst (λ (xs : List Registration). IsFirstAsked xs first) (sym are) (least-renewed first k.least);
  }
