-- How many elements of a list pass a test.
use Rattle.std.proofs.Common.{◌≡◌, ℕ, ◌+◌, ◌≤◌, Bool, true, false, cond, List, [], ◌∷◌, map, refl, sym, ap, subst, ◌∙◌, arith}
use Rattle.std.specs.Prelude.{count_by, filter, ◌&&◌, ◌||◌}
use Rattle.std.specs.List.{AllByRecursion, list_any}
use Rattle.std.proofs.lemmas.Bool.{false≢true, or_parts}
use Rattle.std.proofs.lemmas.List.Sums.{sum_by-cons}
use Rattle.uri_map.specs.declared.peer.Peer.{Peer}
use Rattle.uri_map.specs.Peers.{same_peer}
use Rattle.uri_map.proofs.CallerLemmas.{same_peer-same, same_peer-itself}
use Rattle.exchange_model.specs.Room.{AreApart}

abbrev pub one : Bool → ℕ
one b = cond b 1 0

pub count-cons : {X : Type 0} (p : X → Bool) (x : X) (xs : List X)
    → count_by p (x ∷ xs) ≡ one (p x) + count_by p xs
count-cons p x xs = sum_by-cons (λ y. cond (p y) 1 0) x xs

pub count-map : {X Y : Type 0} (p : Y → Bool) (f : X → Y) (xs : List X)
    → count_by p (map f xs) ≡ count_by (λ (x : X). p (f x)) xs
count-map p f [] = refl
count-map {X = X} p f (x ∷ xs) =
    let ih = count-map p f xs in
    let a = count-cons p (f x) (map f xs) in
    let b = count-cons (λ (y : X). p (f y)) x xs in
    omega (arith, ih, a, b)

pub count-alike : {X : Type 0} (p q : X → Bool) (xs : List X)
    → AllByRecursion (λ (x : X). p x ≡ q x) xs → count_by p xs ≡ count_by q xs
count-alike p q [] a = refl
count-alike p q (x ∷ xs) a =
    let ih = count-alike p q xs a.1 in
    let b = count-cons p x xs in
    let c = count-cons q x xs in
    let same : one (p x) ≡ one (q x) = ap one a.0 in
    omega (arith, ih, b, c, same)

-- where one test passes, another does
pub count-more : {X : Type 0} (p q : X → Bool) → ((x : X) → p x ≡ true → q x ≡ true) → (xs : List X)
    → count_by p xs ≤ count_by q xs
count-more p q more [] = omega arith
count-more p q more (x ∷ xs) =
    let ih = count-more p q more xs in
    let b = count-cons p x xs in
    let c = count-cons q x xs in
    let here = by (p x) refl in
    omega (arith, ih, b, c, here)
  where
    by : (b : Bool) → p x ≡ b → one b ≤ one (q x)
    by true e = rw (more x e) (omega arith)
    by false e = omega arith

pub count-none : {X : Type 0} (p : X → Bool) (xs : List X) → ((x : X) → p x ≡ false)
    → count_by p xs ≡ 0
count-none p [] h = refl
count-none p (x ∷ xs) h =
    let ih = count-none p xs h in
    let a = count-cons p x xs in
    let here : one (p x) ≡ 0 = ap one (h x) in
    omega (arith, ih, a, here)

pub count-either : {X : Type 0} (p q : X → Bool) (xs : List X)
    → count_by (λ (x : X). p x || q x) xs ≤ count_by p xs + count_by q xs
count-either p q [] = omega arith
count-either {X = X} p q (x ∷ xs) =
    let ih = count-either p q xs in
    let a = count-cons p x xs in
    let b = count-cons q x xs in
    let c = count-cons (λ (y : X). p y || q y) x xs in
    let here = by (p x) (q x) in
    omega (arith, ih, a, b, c, here)
  where
    by : (u v : Bool) → one (u || v) ≤ one u + one v
    by true v = omega arith
    by false v = omega arith

pub count-filter : {X : Type 0} (p q : X → Bool) (xs : List X)
    → count_by p (filter q xs) ≤ count_by p xs
count-filter p q [] = omega arith
count-filter p q (x ∷ xs) = by (q x) (count-filter p q xs)
  where
    by : (b : Bool) → count_by p (filter q xs) ≤ count_by p xs
        → count_by p (cond b (x ∷ filter q xs) (filter q xs)) ≤ count_by p (x ∷ xs)
    by true ih =
        let a = count-cons p x (filter q xs) in
        let b = count-cons p x xs in
        omega (arith, ih, a, b)
    by false ih =
        let b = count-cons p x xs in
        omega (arith, ih, b)

-- endpoints that are apart

pub turned-peers : (p q : Peer) (b : Bool) → same_peer p q ≡ b → same_peer q p ≡ b
turned-peers p q true e = subst (λ (r : Peer). same_peer r p ≡ true) (same_peer-same p q e)
    (same_peer-itself p)
turned-peers p q false e = by (same_peer q p) refl
  where
    by : (b : Bool) → same_peer q p ≡ b → b ≡ false
    by true f =
        let same = sym (same_peer-same q p f) in
        let is = subst (λ (r : Peer). same_peer p r ≡ true) same (same_peer-itself p) in
        absurd (false≢true (sym e ∙ is))
    by false f = refl

none-same : (p : Peer) (ps : List Peer) → list_any (λ (q : Peer). same_peer q p) ps ≡ false
    → count_by (same_peer p) ps ≡ 0
none-same p [] h = refl
none-same p (q ∷ ps) h =
    let parts = or_parts (same_peer q p) (list_any (λ (r : Peer). same_peer r p) ps) h in
    let ih = none-same p ps parts.1 in
    let a = count-cons (same_peer p) q ps in
    let here : one (same_peer p q) ≡ 0 = ap one (turned-peers q p false parts.0) in
    omega (arith, ih, a, here)

pub one-same : (r : Peer) (ps : List Peer) → AreApart ps → count_by (same_peer r) ps ≤ 1
one-same r [] a = omega arith
one-same r (p ∷ ps) a = by (same_peer r p) refl (one-same r ps a.1)
  where
    by : (b : Bool) → same_peer r p ≡ b → count_by (same_peer r) ps ≤ 1
        → count_by (same_peer r) (p ∷ ps) ≤ 1
    by true e ih =
        let none = subst (λ (q : Peer). count_by (same_peer q) ps ≡ 0) (sym (same_peer-same r p e))
        (none-same p ps a.0) in
        let c = count-cons (same_peer r) p ps in
        let here : one (same_peer r p) ≡ 1 = ap one e in
        omega (arith, none, c, here)
    by false e ih =
        let c = count-cons (same_peer r) p ps in
        let here : one (same_peer r p) ≡ 0 = ap one e in
        omega (arith, ih, c, here)

-- Each of these is of an endpoint of its own: there are no more of those than of these.
pub one-each : {X : Type 0} (q : X → Bool) (at : X → Peer) (xs : List X) (ps : List Peer)
    → AreApart ps
    → count_by (λ (p : Peer). list_any (λ (x : X). q x && same_peer (at x) p) xs) ps ≤ count_by q xs
one-each {X = X} q at [] ps a =
    let none = count-none (λ (p : Peer). false) ps (λ p. refl) in
    omega (arith, none)
one-each {X = X} q at (x ∷ xs) ps a =
    let ih = one-each q at xs ps a in
    let both = count-either (λ (p : Peer). q x && same_peer (at x) p)
    (λ (p : Peer). list_any (λ (y : X). q y && same_peer (at y) p) xs) ps in
    let c = count-cons q x xs in
    let here = by (q x) in
    omega (arith, ih, both, c, here)
  where
    by : (b : Bool) → count_by (λ (p : Peer). b && same_peer (at x) p) ps ≤ one b
    by true = one-same (at x) ps a
    by false = let none = count-none (λ (p : Peer). false) ps (λ p. refl) in omega (arith, none)
