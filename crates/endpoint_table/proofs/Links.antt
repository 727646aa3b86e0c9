-- The links of the endpoints, of which one changes.
use Rattle.std.proofs.Common.{◌≡◌, ℕ, zero, suc, ◌<◌, Bool, true, false, cond, List, [], ◌∷◌, ◌++◌, map, get_or, Some, Result, Ok, Err, refl, sym, ap, subst, ◌∙◌}
use Rattle.std.specs.Prelude.{slice_get, slice_set, is_some, nat_lt, IfOk, ◌&&◌, ◌||◌}
use Rattle.std.specs.List.{list_any}
use Rattle.std.proofs.lemmas.Bool.{false≢true, lt-ltb}
use Rattle.uri_map.specs.declared.peer.Peer.{Peer}
use Rattle.uri_map.specs.Peers.{same_peer}
use Rattle.uri_map.proofs.CallerLemmas.{same_peer-itself, same_peer-same}
use Rattle.message_layer.specs.Values.{LinkState, LinkValue, empty_link}
use Rattle.exchange_model.specs.Calls.{peer_of}
use Rattle.exchange_model.specs.Room.{AreApart}
use Rattle.exchange_model.specs.State.{PeerLink, link_of, with_link}
use Rattle.endpoint_table.specs.declared.endpoint.Endpoint.{Endpoint}
use Rattle.endpoint_table.specs.Places.{HasNone, IsFirstAt}
use Rattle.endpoint_table.specs.Tables.{AreOnce, link_at, peer_link, shown}

-- the link in a place

pub link-there : (p : Peer) (xs : List Endpoint) (i : ℕ) (spare : Bool) (e : Endpoint)
    → IsFirstAt p (map peer_link xs) i → slice_get xs i ≡ Some e
    → link_at (shown xs spare) p ≡ e.link
link-there p [] i spare e f g = absurd f
link-there p (x ∷ xs) zero spare e f g =
    let same : x ≡ e = cc in rw (f) (ap (λ (v : Endpoint). v.link) same)
link-there p (x ∷ xs) (suc i) spare e f g = rw (f.0) (link-there p xs i spare e f.1 g)

pub state-there : (p : Peer) (xs : List Endpoint) (i : ℕ) (e : Endpoint)
    → IsFirstAt p (map peer_link xs) i → slice_get xs i ≡ Some e
    → link_of (map peer_link xs) p ≡ e.link.state
state-there p xs i e f g = ap (λ (v : LinkValue). v.state) (link-there p xs i false e f g)

-- one of them is set

pub links-set : (p : Peer) (xs : List Endpoint) (i : ℕ) (e x : Endpoint)
    → IsFirstAt p (map peer_link xs) i → e.peer ≡ (get_or xs i x).peer
    → map peer_link (slice_set xs i e) ≡ with_link p e.link.state (map peer_link xs)
links-set p [] i e x f same = absurd f
links-set p (y ∷ ys) zero e x f same = rw (f, same) refl
links-set p (y ∷ ys) (suc i) e x f same =
    rw (f.0) (ap (λ (zs : List PeerLink). peer_link y ∷ zs) (links-set p ys i e x f.1 same))

pub links-same : (xs : List Endpoint) (i : ℕ) (e x : Endpoint)
    → peer_link e ≡ peer_link (get_or xs i x)
    → map peer_link (slice_set xs i e) ≡ map peer_link xs
links-same [] i e x same = refl
links-same (y ∷ ys) zero e x same = ap (λ (z : PeerLink). z ∷ map peer_link ys) same
links-same (y ∷ ys) (suc i) e x same =
    ap (λ (zs : List PeerLink). peer_link y ∷ zs) (links-same ys i e x same)

pub link-set : (p : Peer) (xs : List Endpoint) (i : ℕ) (spare : Bool) (e x : Endpoint)
    → IsFirstAt p (map peer_link xs) i → e.peer ≡ (get_or xs i x).peer
    → link_at (shown (slice_set xs i e) spare) p ≡ e.link
link-set p [] i spare e x f same = absurd f
link-set p (y ∷ ys) zero spare e x f same = rw (same, f) refl
link-set p (y ∷ ys) (suc i) spare e x f same = rw (f.0) (link-set p ys i spare e x f.1 same)

-- where there is none, the link is a new one, and comes last

pub none-there : (p : Peer) (xs : List Endpoint) (spare : Bool) → HasNone p (map peer_link xs)
    → link_at (shown xs spare) p ≡ (record { state = empty_link; room = spare })
none-there p [] spare h = refl
none-there p (x ∷ xs) spare h = rw (h.0) (none-there p xs spare h.1)

pub none-of : (p : Peer) (xs : List PeerLink) → HasNone p xs → link_of xs p ≡ empty_link
none-of p [] h = refl
none-of p (x ∷ xs) h = rw (h.0) (none-of p xs h.1)

pub pushed : (p : Peer) (s : LinkState) (xs : List PeerLink) → HasNone p xs
    → with_link p s xs ≡ xs ++ record { peer = p; link = s } ∷ []
pushed p s [] h = refl
pushed p s (x ∷ xs) h = rw (h.0) (ap (λ (zs : List PeerLink). x ∷ zs) (pushed p s xs h.1))

-- each endpoint has one link still

pub same-back : (p q : Peer) → same_peer q p ≡ false → same_peer p q ≡ false
same-back p q e = by (same_peer p q) refl
  where
    by : (b : Bool) → same_peer p q ≡ b → b ≡ false
    by true f =
        absurd (false≢true (sym e ∙ ap (same_peer q) (same_peer-same p q f) ∙ same_peer-itself q))
    by false f = refl

none-other : (q p : Peer) (s : LinkState) (xs : List PeerLink) → same_peer p q ≡ false
    → list_any (λ (r : Peer). same_peer r q) (map peer_of xs) ≡ false
    → list_any (λ (r : Peer). same_peer r q) (map peer_of (with_link p s xs)) ≡ false
none-other q p s [] e h = rw (e) refl
none-other q p s (x ∷ xs) e h =
    by (same_peer x.peer p) (same_peer x.peer q) refl h (none-other q p s xs e)
  where
    by : (b c : Bool) → same_peer x.peer q ≡ c
        → (c || list_any (λ (r : Peer). same_peer r q) (map peer_of xs)) ≡ false
        → (list_any (λ (r : Peer). same_peer r q) (map peer_of xs) ≡ false
        → list_any (λ (r : Peer). same_peer r q) (map peer_of (with_link p s xs)) ≡ false)
        → list_any (λ (r : Peer). same_peer r q)
        (map peer_of (cond b (record { peer = x.peer; link = s } ∷ xs) (x ∷ with_link p s xs)))
        ≡ false
    by true true f k rest = absurd cc
    by true false f k rest = rw (f) k
    by false true f k rest = absurd cc
    by false false f k rest = rw (f) (rest k)

apart-with : (p : Peer) (s : LinkState) (xs : List PeerLink) → AreApart (map peer_of xs)
    → AreApart (map peer_of (with_link p s xs))
apart-with p s [] a = (refl, tt)
apart-with p s (x ∷ xs) a = by (same_peer x.peer p) refl (apart-with p s xs a.1)
  where
    by : (b : Bool) → same_peer x.peer p ≡ b → AreApart (map peer_of (with_link p s xs))
        → AreApart (map peer_of
        (cond b (record { peer = x.peer; link = s } ∷ xs) (x ∷ with_link p s xs)))
    by true e rest = a
    by false e rest = (none-other x.peer p s xs (same-back p x.peer e) a.0, rest)

pub once-with : (p : Peer) (s : LinkState) (xs ys : List Endpoint) → AreOnce xs
    → map peer_link ys ≡ with_link p s (map peer_link xs) → AreOnce ys
once-with p s xs ys once e =
    subst (λ (zs : List PeerLink). AreApart (map peer_of zs)) (sym e)
    (apart-with p s (map peer_link xs) once)

pub once-same : (xs ys : List Endpoint) → AreOnce xs → map peer_link ys ≡ map peer_link xs
    → AreOnce ys
once-same xs ys once e =
    subst (λ (zs : List PeerLink). AreApart (map peer_of zs)) (sym e) once

pub peers-turned : (f : PeerLink → PeerLink) → ((x : PeerLink) → (f x).peer ≡ x.peer)
    → (xs : List PeerLink) → map peer_of (map f xs) ≡ map peer_of xs
peers-turned f same [] = refl
peers-turned f same (x ∷ xs) =
    ap (λ (p : Peer). p ∷ map peer_of (map f xs)) (same x)
    ∙ ap (λ (ps : List Peer). x.peer ∷ ps) (peers-turned f same xs)

pub once-turned : (f : PeerLink → PeerLink) → ((x : PeerLink) → (f x).peer ≡ x.peer)
    → (xs ys : List Endpoint) → AreOnce xs → map peer_link ys ≡ map f (map peer_link xs)
    → AreOnce ys
once-turned f same xs ys once e =
    subst AreApart (sym (ap (map peer_of) e ∙ peers-turned f same (map peer_link xs))) once

-- a new one, where there is a place for it
pub spare-link : (p : Peer) (xs : List Endpoint) (len capacity slots : ℕ) (link : LinkValue)
    → HasNone p (map peer_link xs) → link.state ≡ empty_link → len < capacity → len < slots
    → link_at (shown xs (nat_lt len capacity && (nat_lt len slots && link.room))) p ≡ link
spare-link p xs len capacity slots link h empty lt less =
    none-there p xs (nat_lt len capacity && (nat_lt len slots && link.room)) h
    ∙ (ap (λ (s : LinkState).
    record { state = s; room = nat_lt len capacity && (nat_lt len slots && link.room) })
    (sym empty)
    ∙ (ap (λ (b : Bool). record { state = link.state; room = b && (nat_lt len slots && link.room) })
    (lt-ltb len capacity lt)
    ∙ ap (λ (b : Bool). record { state = link.state; room = b && link.room })
    (lt-ltb len slots less)))

pub unknown : (p : Peer) (xs : List PeerLink) → HasNone p xs
    → is_some (link_of xs p).last_mid ≡ true → ⊥
unknown p xs h known =
    false≢true (sym (ap (λ (s : LinkState). is_some s.last_mid) (none-of p xs h)) ∙ known)

pub ok-too : {X E : Type 0} (P Q : X → Type 0) (r : Result X E) → ((x : X) → P x → Q x)
    → IfOk r P → IfOk r Q
ok-too P Q (Ok x) f h = f x h
ok-too P Q (Err e) f h = tt

pub shown-push : (xs : List Endpoint) (e : Endpoint)
    → map peer_link (xs ++ e ∷ []) ≡ map peer_link xs ++ peer_link e ∷ []
shown-push [] e = refl
shown-push (x ∷ xs) e = ap (λ (ls : List PeerLink). peer_link x ∷ ls) (shown-push xs e)
