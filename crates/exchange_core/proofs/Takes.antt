-- Answers that are taken out of a list of them.
use Rattle.std.proofs.Common.{◌≡◌, ◌≢◌, ℕ, zero, suc, ◌<◌, Bool, true, false, cond, not, eqb, inl, inr, List, [], ◌∷◌, length, map, get_or, Option, Some, None, refl, sym, ap, ◌∙◌, subst, arith}
use Rattle.std.specs.Prelude.{option_map, IfSome}
use Rattle.exchange_model.specs.State.{State}
use Rattle.exchange_core.specs.declared.answer.Answer.{Answer}
use Rattle.exchange_core.specs.Values.{Untaken, Outgoing}
use Rattle.exchange_core.specs.Answering.{Given, IsGiven, given_of}
use Rattle.exchange_core.specs.Drafts.{untaken_of}
use Rattle.exchange_core.specs.States.{core_of}
use Rattle.exchange_core.specs.Sound.{SoundState}
use Rattle.exchange_core.specs.Taking.{IsTaken, is_to_other}
use Rattle.std.specs.List.{All, AllByRecursion, Contains, filter, remove, slice_get}
use Rattle.std.proofs.lemmas.List.Elements.{All-nil, All-cons, All-head, All-tail}
use Rattle.std.proofs.lemmas.Bool.Decides.{eqb_tells}
use Rattle.std.proofs.lemmas.List.{length-map}
use Rattle.std.proofs.lemmas.Option.{same_Some}
use Rattle.history_laws.proofs.CallerLemmas.{all-of}

-- the place of the first with this key is one of the list, and bears the key
pub place-below : {X : Type 0} (key : X → ℕ) (xs : List X) (i n : ℕ) → option_map key (slice_get xs i) ≡ Some n → i < length xs
place-below key [] i n e = absurd cc
place-below key (x ∷ xs) zero n e = omega arith
place-below key (x ∷ xs) (suc i) n e = let below = place-below key xs i n e in omega arith

pub key-is : {X : Type 0} (key : X → ℕ) (xs : List X) (i n : ℕ) (d : X) → option_map key (slice_get xs i) ≡ Some n → key (get_or xs i d) ≡ n
key-is key [] i n d e = absurd cc
key-is key (x ∷ xs) zero n d e = cc
key-is key (x ∷ xs) (suc i) n d e = key-is key xs i n d e

get_or-map : {X Y : Type 0} (f : X → Y) (xs : List X) (i : ℕ) (d : X) → get_or (map f xs) i (f d) ≡ f (get_or xs i d)
get_or-map f [] i d = refl
get_or-map f (x ∷ xs) zero d = refl
get_or-map f (x ∷ xs) (suc i) d = get_or-map f xs i d

-- what was taken out stood in the list
pub there : {X Y : Type 0} (f : X → Y) (xs : List X) (i : ℕ) (a : X) → i < length xs → a ≡ get_or xs i a → Contains (map f xs) (f a)
there f xs i a lt e = (i, rw (length-map xs f) lt, get_or-map f xs i a ∙ ap f (sym e))

-- none with this key is left, and the others stay: the one taken out first, then all
pub left : {X : Type 0} (key : X → ℕ) (xs : List X) (i n : ℕ) → option_map key (slice_get xs i) ≡ Some n
    → filter (λ (x : X). not (eqb (key x) n)) (remove xs i) ≡ filter (λ (x : X). not (eqb (key x) n)) xs
left key [] i n e = absurd cc
left {X} key (x ∷ xs) zero n e =
    elim (eqb_tells (key x) n) [ inl u ↦ rw (u.0) refl | inr u ↦ absurd (u.1 (same_Some (key x) n e)) ]
left {X} key (x ∷ xs) (suc i) n e =
    let rest = left key xs i n e in
    elim (eqb_tells (key x) n) [ inl u ↦ rw (u.0) rest | inr u ↦ rw (u.0) (ap (λ (ys : List X). x ∷ ys) rest) ]

pub map-filter : {X Y : Type 0} (f : X → Y) (key : Y → ℕ) (xs : List X) (n : ℕ)
    → map f (filter (λ (x : X). not (eqb (key (f x)) n)) xs) ≡ filter (λ (y : Y). not (eqb (key y) n)) (map f xs)
map-filter f key [] n = refl
map-filter {X} {Y} f key (x ∷ xs) n =
    let rest = map-filter f key xs n in
    elim (eqb_tells (key (f x)) n) [ inl u ↦ rw (u.0) rest | inr u ↦ rw (u.0) (ap (λ (ys : List Y). f x ∷ ys) rest) ]

-- where none has the key, none is taken out
pub none-taken : {X : Type 0} (key : X → ℕ) (xs : List X) (n : ℕ) → All (λ (x : X). key x ≢ n) xs → filter (λ (x : X). not (eqb (key x) n)) xs ≡ xs
none-taken key [] n all = refl
none-taken {X} key (x ∷ xs) n all =
    let rest = none-taken key xs n (All-tail (λ (x : X). key x ≢ n) x xs all) in
    elim (eqb_tells (key x) n) [
      | inl u ↦ absurd (All-head (λ (x : X). key x ≢ n) x xs all u.1)
      | inr u ↦ rw (u.0) (ap (λ (ys : List X). x ∷ ys) rest)
    ]

pub none-of : {X Y : Type 0} (f : X → Y) (key : Y → ℕ) (xs : List X) (n : ℕ) → All (λ (x : X). key (f x) ≢ n) xs → All (λ (y : Y). key y ≢ n) (map f xs)
none-of {X} {Y} f key [] n all = All-nil (λ (y : Y). key y ≢ n)
none-of {X} {Y} f key (x ∷ xs) n all =
    All-cons (λ (y : Y). key y ≢ n) (f x) (map f xs) (All-head (λ (x : X). key (f x) ≢ n) x xs all)
    (none-of f key xs n (All-tail (λ (x : X). key (f x) ≢ n) x xs all))

pub asks-same : {R : Type 0} (xs : List (Answer R)) → map (λ (a : Answer R). a.ask) xs ≡ map (λ (u : Untaken). u.ask) (map untaken_of (map given_of xs))
asks-same [] = refl
asks-same (x ∷ xs) = ap (λ (ks : List ℕ). x.ask ∷ ks) (asks-same xs)

-- an answer that is taken

none-to : (gs : List Given) (k : ℕ) → All (λ (g : Given). g.ask ≢ k) gs → AllByRecursion (is_to_other k) (map untaken_of gs)
none-to [] k all = tt
none-to (g ∷ gs) k all = (All-head (λ (x : Given). x.ask ≢ k) g gs all, none-to gs k (All-tail (λ (x : Given). x.ask ≢ k) g gs all))

pub taken : {R : Type 0} (r : Option (Answer R)) (k : ℕ) (S : State) (gs gs1 : List Given) (os : List Outgoing)
    → AllByRecursion (IsGiven S.entries) gs
    → IfSome r (λ (a : Answer R). (a.ask ≡ k) × Contains gs (given_of a))
    → (r ≡ None → All (λ (g : Given). g.ask ≢ k) gs)
    → gs1 ≡ filter (λ (g : Given). not (eqb g.ask k)) gs
    → IsTaken (option_map given_of r) k (core_of S gs os) (core_of S gs1 os)
taken None k S gs gs1 os all some none others =
    let all_others = none refl in
    let same = others ∙ none-taken (λ (g : Given). g.ask) gs k all_others in
    (ap (λ (hs : List Given). core_of S hs os) same, none-to gs k all_others)
taken (Some a) k S gs gs1 os all some none others =
    let has = some.1 in (
      some.0,
      there untaken_of gs has.0 (given_of a) has.1 (sym has.2),
      all-of (IsGiven S.entries) gs (given_of a) all has,
      ap (λ (hs : List Given). core_of S hs os) others ∙ ap (λ (us : List Untaken). record { state = S; untaken = us; unsent = os }) (map-filter untaken_of (λ (u : Untaken). u.ask) gs k),
    )

all-left : (P : Given → Type 0) (p : Given → Bool) (gs : List Given) → AllByRecursion P gs → AllByRecursion P (filter p gs)
all-left P p [] all = tt
all-left P p (g ∷ gs) all =
    elim (p g) as (λ b. AllByRecursion P (cond b (g ∷ filter p gs) (filter p gs))) [ true ↦ (all.0, all-left P p gs all.1) | false ↦ all-left P p gs all.1 ]

pub sound-taken : (S : State) (bytes room k : ℕ) (gs gs1 : List Given) → SoundState S bytes room gs
    → gs1 ≡ filter (λ (g : Given). not (eqb g.ask k)) gs → SoundState S bytes room gs1
sound-taken S bytes room k gs gs1 s others =
    record {
      kept = s.kept;
      drained = s.drained;
      early = s.early;
      few = s.few;
      count = s.count;
      places = s.places;
      given = subst (AllByRecursion (IsGiven S.entries)) (sym others) (all-left (IsGiven S.entries) (λ (g : Given). not (eqb g.ask k)) gs s.given);
    }
