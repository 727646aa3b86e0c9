-- Chains of messages: how one is found along its chain, and what one more or one less does to them.
use Rattle.std.proofs.Common.{◌≡◌, ℕ, suc, zero, ◌+◌, ◌-◌, ◌^◌, ◌≤◌, ◌<◌, List, [], ◌∷◌, ◌++◌, length, take, drop, get_or, Option, Some, None, Bool, true, false, cond, ◌==◌, ◌⊎◌, inl, inr, replicate, refl, sym, ◌∙◌, ap, arith}
use Rattle.std.proofs.Math.ListN.{set}
use Rattle.std.specs.List.{find}
use Rattle.std.specs.Option.{option_or}
use Rattle.std.proofs.lemmas.Bool.{eqb-true, eqb-false, eq-eqb, ne_eqb, and_left, cases_eq, cases_lt, cond-true, cond-false}
use Rattle.std.proofs.lemmas.List.{length-take-le, length_push, get_or-take, get_or_append_left, get_or_push, get_or-set_same, get_or-set_other, get_or_default, take_all, take-take, take_at, take-append-le, take_more}
use Rattle.std.proofs.lemmas.List.Folds.{find-append}
use Rattle.message_layer.specs.Remembering.{is_fresh, is_repeat, chain_of, place_beside, last_place, AreChained, IsChained, IsFollowed, chosen}
use Rattle.message_layer.specs.declared.state.Heard.{Heard}
use Rattle.message_layer.specs.declared.chains.Chains.{Chains}
use Rattle.message_layer.proofs.Sound.{either}

-- without the first message the others stand one place further in front
place-behind : (c : ℕ) (h : Heard) (n : ℕ) → place_beside c h n - 1 ≡ n
place-behind c h zero = let P : ℕ → Type 0 = λ x. x - 1 ≡ 0 in either P (chain_of h.mid == c) 1 0 (λ e. refl) (λ e. refl)
place-behind c h (suc n) = omega arith

pub last-rest : (c : ℕ) (h : Heard) (rest : List Heard) → last_place c (h ∷ rest) - 1 ≡ last_place c rest
last-rest c h rest = place-behind c h (last_place c rest)

place-within : (c : ℕ) (h : Heard) (n m : ℕ) → n ≤ m → place_beside c h n ≤ suc m
place-within c h zero m e = let P : ℕ → Type 0 = λ x. x ≤ suc m in either P (chain_of h.mid == c) 1 0 (λ t. omega arith) (λ f. omega arith)
place-within c h (suc n) m e = omega (arith, e)

last-within : (c : ℕ) (ms : List Heard) → last_place c ms ≤ length ms
last-within c [] = omega arith
last-within c (h ∷ rest) = place-within c h (last_place c rest) (length rest) (last-within c rest)

-- one more message comes last in its chain, and changes no other
last-own : (c : ℕ) (h : Heard) (ms : List Heard) → chain_of h.mid ≡ c → last_place c (ms ++ h ∷ []) ≡ length ms + 1
last-own c h [] e = cond-true (chain_of h.mid == c) 1 0 (eq-eqb (chain_of h.mid) c e)
last-own c h (m ∷ ms) e =
    let r : last_place c (ms ++ h ∷ []) ≡ suc (length ms) = last-own c h ms e ∙ omega arith in
    let up : suc (suc (length ms)) ≡ suc (length ms) + 1 = omega arith in
    ap (λ n. place_beside c m n) r ∙ up

last-other : (c : ℕ) (h : Heard) (ms : List Heard) → (chain_of h.mid == c) ≡ false → last_place c (ms ++ h ∷ []) ≡ last_place c ms
last-other c h [] e = cond-false (chain_of h.mid == c) 1 0 e
last-other c h (m ∷ ms) e = ap (λ n. place_beside c m n) (last-other c h ms e)

-- what stands there is of the chain
last-is : (c : ℕ) (ms : List Heard) (n : ℕ) (d : Heard) → last_place c ms ≡ suc n → chain_of (get_or ms n d).mid ≡ c
last-is c [] n d e = absurd (omega (arith, e))
last-is c (m ∷ ms) n d e = by (last_place c ms) (λ k is. last-is c ms k d is) e
  where
    by : (p : ℕ) → ((k : ℕ) → p ≡ suc k → chain_of (get_or ms k d).mid ≡ c) → place_beside c m p ≡ suc n → chain_of (get_or (m ∷ ms) n d).mid ≡ c
    by zero r e =
        let P : ℕ → Type 0 = λ y. y ≡ suc n → chain_of (get_or (m ∷ ms) n d).mid ≡ c in
        either P (chain_of m.mid == c) 1 0
        (λ t g. let z : n ≡ 0 = omega (arith, g) in rw z (eqb-true (chain_of m.mid) c t))
        (λ f g. absurd (omega (arith, g))) e
    by (suc k) r e = let z : n ≡ suc k = omega (arith, e) in rw z (r k refl)

-- a repeat is of the chain of its ID
not-repeat : (t mid : ℕ) (m : Heard) → (chain_of m.mid == chain_of mid) ≡ false → is_repeat t mid m ≡ false
not-repeat t mid m f = and_left (m.mid == mid) (is_fresh t m) (ne_eqb m.mid mid (λ e. eqb-false (chain_of m.mid) (chain_of mid) f (ap chain_of e)))

-- so the first one stands no later than the last of its chain
find-placed : (t mid : ℕ) (ms : List Heard) → find (is_repeat t mid) ms ≡ find (is_repeat t mid) (take (last_place (chain_of mid) ms) ms)
find-placed t mid [] = refl
find-placed t mid (m ∷ ms) = by (last_place (chain_of mid) ms) (find-placed t mid ms)
  where
    first : Option Heard → Option Heard
    first r = cond (is_repeat t mid m) (Some m) r

    by : (k : ℕ) → find (is_repeat t mid) ms ≡ find (is_repeat t mid) (take k ms) → find (is_repeat t mid) (m ∷ ms) ≡ find (is_repeat t mid) (take (place_beside (chain_of mid) m k) (m ∷ ms))
    by (suc k) e = ap first e
    by zero e =
        let P : ℕ → Type 0 = λ y. find (is_repeat t mid) (m ∷ ms) ≡ find (is_repeat t mid) (take y (m ∷ ms)) in
        either P (chain_of m.mid == chain_of mid) 1 0
        (λ t. ap first e)
        (λ f. cond-false (is_repeat t mid m) (Some m) (find (is_repeat t mid) ms) (not-repeat t mid m f) ∙ e)

-- following a chain
or-none : (r : Option Heard) → option_or r None ≡ r
or-none None = refl
or-none (Some h) = refl

or-chosen : (r : Option Heard) (b : Bool) (h : Heard) (found : Option Heard) → option_or r (cond b (Some h) found) ≡ option_or (option_or r (cond b (Some h) None)) found
or-chosen None true h found = refl
or-chosen None false h found = refl
or-chosen (Some m) b h found = refl

pub followed-first : (x : Chains) (ms : List Heard) (t mid number : ℕ) → IsChained x ms → number ≡ get_or x.last.items (chain_of mid) 0 → IsFollowed x ms t mid number None
followed-first x ms t mid number h e =
    let all : take (length ms) ms ≡ ms = take_all (length ms) ms (omega arith) in
    record {
      left = length ms;
      within = omega arith;
      is = ap (λ (n : ℕ). n - x.forgotten) e ∙ h.chain_ends (chain_of mid) (omega arith) ∙ ap (λ (ys : List Heard). last_place (chain_of mid) ys) (sym all);
      rest = or-none (find (is_repeat t mid) (take (length ms) ms)) ∙ ap (λ (ys : List Heard). find (is_repeat t mid) ys) all;
    }

-- one step back, from a message with a number to the one before it
pub record StepsBack (x : Chains) (ms : List Heard) (t mid number place : ℕ) (found : Option Heard) : Type 0 where
  pub within : place < length ms
  pub before : (h : Heard) (n : ℕ) → get_or x.before.items place n - x.forgotten ≡ last_place (chain_of mid) (take place ms)
  pub rest : (h : Heard) → option_or (find (is_repeat t mid) (take place ms)) (chosen t mid (get_or ms place h) found) ≡ find (is_repeat t mid) ms

pub steps-back : (x : Chains) (ms : List Heard) (t mid number place : ℕ) (found : Option Heard) → IsChained x ms → IsFollowed x ms t mid number found
    → number - x.forgotten ≡ suc place → StepsBack x ms t mid number place found
steps-back x ms t mid number place found c f e = record {
  within = omega (arith, below, f.within);
  before = λ h n.
      let own : chain_of (get_or ms place h).mid ≡ chain_of mid = ap (λ (m : Heard). chain_of m.mid) (sym (get_or-take f.left ms place h below)) ∙ last-is (chain_of mid) (take f.left ms) place h at in
      c.steps place h n (omega (arith, below, f.within)) ∙ ap (λ (k : ℕ). last_place k (take place ms)) own;
  rest = λ h. or-chosen (find q (take place ms)) (q (get_or ms place h)) (get_or ms place h) found ∙ ap (λ (r : Option Heard). option_or r found) (sym (parts h)) ∙ f.rest;
}
  where
    q : Heard → Bool
    q = is_repeat t mid

    at : last_place (chain_of mid) (take f.left ms) ≡ suc place
    at = sym f.is ∙ e

    below : place < f.left
    below = omega (arith, at, last-within (chain_of mid) (take f.left ms), length-take-le f.left ms f.within)

    parts : (h : Heard) → find (is_repeat t mid) (take f.left ms) ≡ option_or (find (is_repeat t mid) (take place ms)) (cond (is_repeat t mid (get_or ms place h)) (Some (get_or ms place h)) None)
    parts h =
        let up : suc place ≡ place + 1 = omega arith in
        let cut : take (suc place) (take f.left ms) ≡ take (suc place) ms = take-take (suc place) f.left ms (omega (arith, below)) in
        let more : take (suc place) ms ≡ take place ms ++ get_or ms place h ∷ [] = rw up (take_more ms place h (omega (arith, below, f.within))) in
        find-placed t mid (take f.left ms)
        ∙ ap (λ (k : ℕ). find (is_repeat t mid) (take k (take f.left ms))) at
        ∙ ap (λ (ys : List Heard). find (is_repeat t mid) ys) (cut ∙ more)
        ∙ find-append (is_repeat t mid) (take place ms) (get_or ms place h ∷ [])

pub followed-back : (x : Chains) (ms : List Heard) (t mid number place : ℕ) (found : Option Heard) (h : Heard) (n : ℕ) (other : Option Heard) → IsChained x ms → IsFollowed x ms t mid number found
    → number - x.forgotten ≡ suc place → h ≡ get_or ms place h → n ≡ get_or x.before.items place n → other ≡ chosen t mid h found → IsFollowed x ms t mid n other
followed-back x ms t mid number place found h n other c f e is before found-is =
    let s = steps-back x ms t mid number place found c f e in
    record {
      left = place;
      within = omega (arith, s.within);
      is = ap (λ (k : ℕ). k - x.forgotten) before ∙ s.before h n;
      rest = ap (λ (r : Option Heard). option_or (find (is_repeat t mid) (take place ms)) r) (found-is ∙ ap (λ (m : Heard). chosen t mid m found) is) ∙ s.rest h;
    }

-- the step goes back
pub goes-back : (x : Chains) (ms : List Heard) (t mid number place : ℕ) (found : Option Heard) (n : ℕ) → IsChained x ms → IsFollowed x ms t mid number found
    → number - x.forgotten ≡ suc place → n ≡ get_or x.before.items place n → n - x.forgotten < number - x.forgotten
goes-back x ms t mid number place found n c f e before = by ms refl
  where
    by : (ys : List Heard) → ms ≡ ys → n - x.forgotten < number - x.forgotten
    by [] is = let s = steps-back x ms t mid number place found c f e in absurd (omega (arith, s.within, ap (λ (zs : List Heard). length zs) is))
    by (h ∷ ys) is =
        let s = steps-back x ms t mid number place found c f e in
        let to : n - x.forgotten ≡ last_place (chain_of mid) (take place ms) = ap (λ (k : ℕ). k - x.forgotten) before ∙ s.before h n in
        omega (arith, to, e, last-within (chain_of mid) (take place ms), length-take-le place ms (omega (arith, s.within)))

pub followed-all : (x : Chains) (ms : List Heard) (t mid number : ℕ) (found : Option Heard) → IsFollowed x ms t mid number found → number ≤ x.forgotten → found ≡ find (is_repeat t mid) ms
followed-all x ms t mid number found f e =
    let none : last_place (chain_of mid) (take f.left ms) ≡ 0 = sym f.is ∙ omega (arith, e) in
    let nothing : find (is_repeat t mid) (take f.left ms) ≡ None = find-placed t mid (take f.left ms) ∙ ap (λ (k : ℕ). find (is_repeat t mid) (take k (take f.left ms))) none in
    ap (λ (r : Option Heard). option_or r found) (sym nothing) ∙ f.rest

-- the oldest message is forgotten
pub chained-rest : (f : ℕ) (before last : List ℕ) (ms : List Heard) → AreChained f before last ms → 0 < length ms → AreChained (f + 1) (drop 1 before) last (drop 1 ms)
chained-rest f before last [] h some = absurd (omega (arith, some))
chained-rest f [] last (m ∷ ms) h some = absurd (omega (arith, h.as_many))
chained-rest f (b ∷ before) last (m ∷ ms) h some = record {
  few = omega (arith, h.few);
  as_many = omega (arith, h.as_many);
  chain_ends = λ c low.
      let less : get_or last c 0 - (f + 1) ≡ (get_or last c 0 - f) - 1 = omega arith in
      less ∙ ap (λ (n : ℕ). n - 1) (h.chain_ends c low) ∙ last-rest c m ms;
  steps = λ i d n low.
      let less : get_or before i n - (f + 1) ≡ (get_or before i n - f) - 1 = omega arith in
      less ∙ ap (λ (n : ℕ). n - 1) (h.steps (suc i) d n (omega (arith, low))) ∙ last-rest (chain_of (get_or ms i d).mid) m (take i ms);
}

-- one more message comes into its chain
pub chained-more : (f : ℕ) (before last : List ℕ) (ms : List Heard) (h : Heard) (c x : ℕ) → AreChained f before last ms → f + length ms + 1 < 2 ^ 32 → 256 ≤ length last → c ≡ chain_of h.mid
    → x ≡ get_or last c x → AreChained f (before ++ x ∷ []) (set last c (f + length ms + 1)) (ms ++ h ∷ [])
chained-more f before last ms h c x r few table is read = record {
  few = omega (arith, few, length_push ms h);
  as_many = length_push before x ∙ ap (λ (n : ℕ). n + 1) r.as_many ∙ sym (length_push ms h);
  chain_ends = λ k low. by-last k low (cases_eq k c);
  steps = λ i d n low. by-before i d n (cases_lt i (length ms)) low;
}
  where
    v : ℕ
    v = f + length ms + 1

    inside : c < length last
    inside = omega (arith, table, is)

    by-last : (k : ℕ) → k < 256 → (k ≡ c) ⊎ (k ≡ c → ⊥) → get_or (set last c (f + length ms + 1)) k 0 - f ≡ last_place k (ms ++ h ∷ [])
    by-last k low (inl e) =
        let new : get_or (set last c (f + length ms + 1)) k 0 ≡ f + length ms + 1 = rw e (get_or-set_same last c (f + length ms + 1) 0 inside) in
        let up : (f + length ms + 1) - f ≡ length ms + 1 = omega arith in
        ap (λ (n : ℕ). n - f) new ∙ up ∙ sym (last-own k h ms (sym is ∙ sym e))
    by-last k low (inr ne) =
        let other : (chain_of h.mid == k) ≡ false = ne_eqb (chain_of h.mid) k (λ e. ne (sym e ∙ sym is)) in
        ap (λ (n : ℕ). n - f) (get_or-set_other last c k (f + length ms + 1) 0 ne) ∙ r.chain_ends k low ∙ sym (last-other k h ms other)

    by-before : (i : ℕ) (d : Heard) (n : ℕ) → (i < length ms) ⊎ (length ms ≤ i) → i < length (ms ++ h ∷ [])
        → get_or (before ++ x ∷ []) i n - f ≡ last_place (chain_of (get_or (ms ++ h ∷ []) i d).mid) (take i (ms ++ h ∷ []))
    by-before i d n (inl low) all =
        let first : get_or (before ++ x ∷ []) i n ≡ get_or before i n = get_or_append_left before (x ∷ []) n i (omega (arith, low, r.as_many)) in
        let same : get_or (ms ++ h ∷ []) i d ≡ get_or ms i d = get_or_append_left ms (h ∷ []) d i low in
        let cut : take i (ms ++ h ∷ []) ≡ take i ms = take-append-le i ms (h ∷ []) (omega (arith, low)) in
        rw (first, same, cut) (r.steps i d n low)
    by-before i d n (inr high) all =
        let e : length ms ≡ i = omega (arith, high, all, length_push ms h) in
        let first : get_or (before ++ x ∷ []) i n ≡ x = get_or_push before x n i (r.as_many ∙ e) in
        let same : get_or (ms ++ h ∷ []) i d ≡ h = get_or_push ms h d i e in
        let cut : take i (ms ++ h ∷ []) ≡ ms = take_at ms (h ∷ []) i e in
        let was : x ≡ get_or last (chain_of h.mid) 0 = read ∙ get_or_default last c x 0 inside ∙ ap (λ (k : ℕ). get_or last k 0) is in
        rw (first, same, cut) (ap (λ (k : ℕ). k - f) was ∙ r.chain_ends (chain_of h.mid) (omega arith))

-- a table that is the same at each place serves as well
pub chained-table : (f : ℕ) (before last other : List ℕ) (ms : List Heard) → AreChained f before last ms → ((c : ℕ) → get_or other c 0 ≡ get_or last c 0) → AreChained f before other ms
chained-table f before last other ms h same = record {
  few = h.few;
  as_many = h.as_many;
  chain_ends = λ c low. ap (λ (n : ℕ). n - f) (same c) ∙ h.chain_ends c low;
  steps = h.steps;
}

-- a table may grow by zeros
all-alike : (z n k : ℕ) → get_or (replicate n z) k z ≡ z
all-alike z zero k = refl
all-alike z (suc n) zero = refl
all-alike z (suc n) (suc k) = all-alike z n k

grown-alike : (z : ℕ) (xs : List ℕ) (n k : ℕ) → get_or (xs ++ replicate n z) k z ≡ get_or xs k z
grown-alike z [] n k = all-alike z n k
grown-alike z (x ∷ xs) n zero = refl
grown-alike z (x ∷ xs) n (suc k) = grown-alike z xs n k

pub table-grown : (xs ys : List ℕ) (m n k : ℕ) → ys ≡ take m xs ++ replicate n 0 → length xs ≤ m → get_or ys k 0 ≡ get_or xs k 0
table-grown xs ys m n k e within =
    ap (λ (zs : List ℕ). get_or zs k 0) (e ∙ ap (λ (zs : List ℕ). zs ++ replicate n 0) (take_all m xs within)) ∙ grown-alike 0 xs n k
