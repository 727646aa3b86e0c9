-- The marks of endpoints, and what is marked.
use Rattle.std.proofs.Common.{◌≡◌, ℕ, zero, suc, ◌+◌, ◌<◌, ◌≤◌, Bool, true, false, cond, List, [], ◌∷◌, ◌++◌, length, map, take, get_or, refl, sym, ap, ◌∙◌, arith}
use Rattle.std.specs.Prelude.{◌||◌, replicate, slice_set}
use Rattle.std.specs.List.{list_any}
use Rattle.std.proofs.lemmas.Bool.{false≢true}
use Rattle.std.proofs.lemmas.List.{take_more}
use Rattle.std.proofs.lemmas.List.Folds.{list_any-append}
use Rattle.uri_map.specs.declared.peer.Peer.{Peer}
use Rattle.uri_map.specs.Peers.{same_peer}
use Rattle.uri_map.proofs.CallerLemmas.{same_peer-itself, same_peer-same}
use Rattle.exchange_model.specs.Calls.{peer_of}
use Rattle.exchange_model.specs.Room.{AreApart}
use Rattle.exchange_model.specs.State.{PeerLink}
use Rattle.endpoint_table.specs.declared.endpoint.Endpoint.{Endpoint}
use Rattle.endpoint_table.specs.Keeping.{is_any, marked, with_mark}
use Rattle.endpoint_table.specs.Places.{HasNone, IsFirstAt}
use Rattle.endpoint_table.specs.Tables.{peer_link}
use Rattle.endpoint_table.proofs.Links.{same-back}

-- one more is marked

or-none : (m : Bool) → (m || false) ≡ m
or-none true = refl
or-none false = refl

or-all : (m : Bool) → (m || true) ≡ true
or-all true = refl
or-all false = refl

or-parts : (a b : Bool) → (a || b) ≡ false → (a ≡ false) × (b ≡ false)
or-parts true b h = absurd (false≢true (sym h))
or-parts false b h = (refl, h)

-- before the first peer
pub marks-none : (xs : List Endpoint)
    → replicate (length xs) false ≡ map (is_any []) (map peer_link xs)
marks-none [] = refl
marks-none (x ∷ xs) = ap (λ (ms : List Bool). false ∷ ms) (marks-none xs)

-- one peer more
or-last : (a b : Bool) → (a || (b || false)) ≡ (a || b)
or-last true b = refl
or-last false true = refl
or-last false false = refl

marks-more : (ps : List Peer) (p : Peer) (xs : List PeerLink)
    → with_mark p xs (map (is_any ps) xs) ≡ map (is_any (ps ++ p ∷ [])) xs
marks-more ps p [] = refl
marks-more ps p (x ∷ xs) =
    let one : (is_any ps x || same_peer p x.peer) ≡ is_any (ps ++ p ∷ []) x =
    sym (list_any-append (λ (q : Peer). same_peer q x.peer) ps (p ∷ [])
    ∙ or-last (is_any ps x) (same_peer p x.peer)) in
    ap (λ (b : Bool). b ∷ with_mark p xs (map (is_any ps) xs)) one
    ∙ ap (λ (ms : List Bool). is_any (ps ++ p ∷ []) x ∷ ms) (marks-more ps p xs)

pub marks-next : (ps : List Peer) (i : ℕ) (d : Peer) (xs : List PeerLink) (ms ns : List Bool)
    → i < length ps → ms ≡ map (is_any (take i ps)) xs → ns ≡ with_mark (get_or ps i d) xs ms
    → ns ≡ map (is_any (take (i + 1) ps)) xs
marks-next ps i d xs ms ns lt so_far is =
    is ∙ (ap (with_mark (get_or ps i d) xs) so_far
    ∙ (marks-more (take i ps) (get_or ps i d) xs
    ∙ ap (λ (qs : List Peer). map (is_any qs) xs) (sym (take_more ps i d lt))))

pub marks-same : (p : Peer) (xs : List PeerLink) (ms : List Bool) → HasNone p xs
    → with_mark p xs ms ≡ ms
marks-same p [] ms h = refl
marks-same p (x ∷ xs) [] h = refl
marks-same p (x ∷ xs) (m ∷ ms) h =
    rw (same-back p x.peer h.0, or-none m)
    (ap (λ (ns : List Bool). m ∷ ns) (marks-same p xs ms h.1))

-- An endpoint has one link.
others : (p q : Peer) (xs : List PeerLink) → q ≡ p
    → list_any (λ (r : Peer). same_peer r q) (map peer_of xs) ≡ false → HasNone p xs
others p q [] e h = tt
others p q (x ∷ xs) e h =
    let parts = or-parts (same_peer x.peer q)
    (list_any (λ (r : Peer). same_peer r q) (map peer_of xs)) h in
    (sym (ap (same_peer x.peer) e) ∙ parts.0, others p q xs e parts.1)

pub marks-set : (p : Peer) (xs : List PeerLink) (i : ℕ) (ms : List Bool)
    → AreApart (map peer_of xs) → IsFirstAt p xs i → slice_set ms i true ≡ with_mark p xs ms
marks-set p [] i ms a f = absurd f
marks-set p (x ∷ xs) zero [] a f = refl
marks-set p (x ∷ xs) zero (m ∷ ms) a f =
    let same = same_peer-same x.peer p f in
    let back : same_peer p x.peer ≡ true = ap (same_peer p) same ∙ same_peer-itself p in
    rw (back, or-all m)
    (ap (λ (ns : List Bool). true ∷ ns) (sym (marks-same p xs ms (others p x.peer xs same a.0))))
marks-set p (x ∷ xs) (suc i) [] a f = refl
marks-set p (x ∷ xs) (suc i) (m ∷ ms) a f =
    rw (same-back p x.peer f.0, or-none m)
    (ap (λ (ns : List Bool). m ∷ ns) (marks-set p xs i ms a.1 f.1))

-- what is marked

module _ {X : Type 0} where
  marked-none : (ms : List Bool) → marked {X = X} ms [] ≡ []
  marked-none [] = refl
  marked-none (m ∷ ms) = refl

  pub marked-more : (ms : List Bool) (xs : List X) (i : ℕ) (d : X) → i < length xs
      → marked ms (take (i + 1) xs)
      ≡ marked ms (take i xs) ++ cond (get_or ms i false) (get_or xs i d ∷ []) []
  marked-more [] xs i d lt = refl
  marked-more (m ∷ ms) [] i d lt = absurd (omega (arith, lt))
  marked-more (m ∷ ms) (x ∷ xs) zero d lt = by m
    where
      by : (b : Bool) → cond b (x ∷ marked ms []) (marked ms []) ≡ cond b (x ∷ []) []
      by true = ap (λ (ys : List X). x ∷ ys) (marked-none ms)
      by false = marked-none ms
  marked-more (m ∷ ms) (x ∷ xs) (suc i) d lt =
      let n : suc i + 1 ≡ suc (i + 1) = omega arith in
      rw (n) (by m (marked-more ms xs i d (omega (arith, lt))))
    where
      one : List X
      one = cond (get_or ms i false) (get_or xs i d ∷ []) []

      by : (b : Bool) → marked ms (take (i + 1) xs) ≡ marked ms (take i xs) ++ one
          → cond b (x ∷ marked ms (take (i + 1) xs)) (marked ms (take (i + 1) xs))
          ≡ cond b (x ∷ marked ms (take i xs)) (marked ms (take i xs)) ++ one
      by true ih = ap (λ (ys : List X). x ∷ ys) ih
      by false ih = ih

  pub marked-fewer : (ms : List Bool) (xs : List X) → length (marked ms xs) ≤ length xs
  marked-fewer [] xs = omega arith
  marked-fewer (m ∷ ms) [] = omega arith
  marked-fewer (true ∷ ms) (x ∷ xs) = let ih = marked-fewer ms xs in omega (arith, ih)
  marked-fewer (false ∷ ms) (x ∷ xs) = let ih = marked-fewer ms xs in omega (arith, ih)

pub marked-map : {X Y : Type 0} (f : X → Y) (ms : List Bool) (xs : List X)
    → map f (marked ms xs) ≡ marked ms (map f xs)
marked-map f [] xs = refl
marked-map f (m ∷ ms) [] = refl
marked-map {Y = Y} f (true ∷ ms) (x ∷ xs) = ap (λ (ys : List Y). f x ∷ ys) (marked-map f ms xs)
marked-map f (false ∷ ms) (x ∷ xs) = marked-map f ms xs

-- they are apart still

none-marked : (f : Peer → Bool) (ms : List Bool) (ps : List Peer) → list_any f ps ≡ false
    → list_any f (marked ms ps) ≡ false
none-marked f [] ps h = refl
none-marked f (m ∷ ms) [] h = refl
none-marked f (true ∷ ms) (p ∷ ps) h =
    let parts = or-parts (f p) (list_any f ps) h in
    rw (parts.0) (none-marked f ms ps parts.1)
none-marked f (false ∷ ms) (p ∷ ps) h =
    none-marked f ms ps (or-parts (f p) (list_any f ps) h).1

pub apart-marked : (ms : List Bool) (ps : List Peer) → AreApart ps → AreApart (marked ms ps)
apart-marked [] ps a = tt
apart-marked (m ∷ ms) [] a = tt
apart-marked (true ∷ ms) (p ∷ ps) a =
    (none-marked (λ (q : Peer). same_peer q p) ms ps a.0, apart-marked ms ps a.1)
apart-marked (false ∷ ms) (p ∷ ps) a = apart-marked ms ps a.1
