-- The links: each endpoint has one, and their messages are short.
use Rattle.std.proofs.Common.{◌≡◌, ◌≤◌, ℕ, ◌/◌, ◌%◌, Bool, true, false, cond, set, List, [], ◌∷◌, length, map, Option, Some, None, refl, sym, subst, arith}
use Rattle.std.specs.Prelude.{not}
use Rattle.std.specs.List.{AllByRecursion, list_any}
use Rattle.std.proofs.lemmas.Bool.{or_parts}
use Rattle.std.proofs.lemmas.List.{length-set}
use Rattle.history_laws.proofs.CallerLemmas.{all-filter, all-push}
use Rattle.limits.specs.declared.TheConstants.{MAX_MESSAGE_LEN}
use Rattle.uri_map.specs.declared.peer.Peer.{Peer}
use Rattle.uri_map.specs.Peers.{same_peer}
use Rattle.message_layer.specs.Values.{LinkState}
use Rattle.message_layer.specs.Sending.{first_sent, with_outstanding, with_copy, waits, queued}
use Rattle.message_layer.specs.declared.state.Outstanding.{Outstanding}
use Rattle.message_layer.specs.declared.state.Waiting.{Waiting}
use Rattle.message_layer.specs.declared.verdict.Verdict.{Verdict}
use Rattle.history_links.specs.Steps.{heard_link, is_over, passed_link}
use Rattle.exchange_model.specs.State.{PeerLink, State, link_of, with_link}
use Rattle.exchange_model.specs.Steps.{given_out}
use Rattle.exchange_model.specs.Hearing.{is_gone, passed}
use Rattle.exchange_model.specs.Calls.{peer_of}
use Rattle.exchange_model.specs.Room.{IsShortOut, IsShort, AreApart}
use Rattle.exchange_model.proofs.Counting.{turned-peers}

abbrev AreShort : List PeerLink → Type 0
AreShort xs = AllByRecursion (λ (x : PeerLink). IsShort x.link) xs

pub record Tidy (xs : List PeerLink) : Type 0 where
  pub short : AllByRecursion (λ (x : PeerLink). IsShort x.link) xs
  pub apart : AreApart (map peer_of xs)

-- the link of an endpoint

pub short-link : (xs : List PeerLink) (p : Peer)
    → AllByRecursion (λ (x : PeerLink). IsShort x.link) xs → IsShort (link_of xs p)
short-link [] p a = record { outstanding = tt; waiting = tt }
short-link (x ∷ xs) p a = by (same_peer x.peer p) (short-link xs p a.1)
  where
    by : (b : Bool) → IsShort (link_of xs p) → IsShort (cond b x.link (link_of xs p))
    by true ih = a.0
    by false ih = ih

-- a link is set

short-with : (p : Peer) (s : LinkState) (xs : List PeerLink) → IsShort s → AreShort xs
    → AreShort (with_link p s xs)
short-with p s [] h a = (h, tt)
short-with p s (x ∷ xs) h a = by (same_peer x.peer p) (short-with p s xs h a.1)
  where
    by : (b : Bool) → AreShort (with_link p s xs)
        → AreShort (cond b (record { peer = x.peer; link = s } ∷ xs) (x ∷ with_link p s xs))
    by true ih = (h, a.1)
    by false ih = (a.0, ih)

none-with : (p r : Peer) (s : LinkState) (xs : List PeerLink) → same_peer p r ≡ false
    → list_any (λ (q : Peer). same_peer q r) (map peer_of xs) ≡ false
    → list_any (λ (q : Peer). same_peer q r) (map peer_of (with_link p s xs)) ≡ false
none-with p r s [] other h = rw (other) refl
none-with p r s (x ∷ xs) other h =
    let parts = or_parts (same_peer x.peer r)
    (list_any (λ (q : Peer). same_peer q r) (map peer_of xs)) h in
    by (same_peer x.peer p) parts.0 (none-with p r s xs other parts.1)
  where
    by : (b : Bool) → same_peer x.peer r ≡ false
        → list_any (λ (q : Peer). same_peer q r) (map peer_of (with_link p s xs)) ≡ false
        → list_any (λ (q : Peer). same_peer q r)
        (map peer_of (cond b (record { peer = x.peer; link = s } ∷ xs)
        (x ∷ with_link p s xs))) ≡ false
    by true first ih = h
    by false first ih = rw (first) ih

apart-with : (p : Peer) (s : LinkState) (xs : List PeerLink) → AreApart (map peer_of xs)
    → AreApart (map peer_of (with_link p s xs))
apart-with p s [] a = (refl, tt)
apart-with p s (x ∷ xs) a = by (same_peer x.peer p) refl (apart-with p s xs a.1)
  where
    by : (b : Bool) → same_peer x.peer p ≡ b → AreApart (map peer_of (with_link p s xs))
        → AreApart (map peer_of
        (cond b (record { peer = x.peer; link = s } ∷ xs) (x ∷ with_link p s xs)))
    by true e ih = a
    by false e ih = (none-with p x.peer s xs (turned-peers x.peer p false e) a.0, ih)

pub tidy-with : (p : Peer) (s : LinkState) (xs : List PeerLink) → Tidy xs → IsShort s
    → Tidy (with_link p s xs)
tidy-with p s xs h short = record
    { short = short-with p s xs short h.short; apart = apart-with p s xs h.apart }

-- what each entry makes of a link

pub short-first : (t : ℕ) (s : LinkState) (w : Waiting) (ws : List Waiting) → IsShort s
    → s.waiting ≡ w ∷ ws
    → (length (first_sent t s.last_mid w).datagram ≤ 2024) × IsShort
    (given_out (with_outstanding s ws (first_sent t s.last_mid w)))
short-first t s w ws h is =
    let waiting = subst (AllByRecursion (λ (v : Waiting). length v.datagram ≤ MAX_MESSAGE_LEN)) is
    h.waiting in
    let mid = (first_sent t s.last_mid w).mid in
    let one = length-set w.datagram 2 (mid / 256) in
    let two = length-set (set w.datagram 2 (mid / 256)) 3 (mid % 256) in
    let first = waiting.0 in
    let o = first_sent t s.last_mid w in
    let short : length o.datagram ≤ 2024 = omega (arith, first, one, two) in
    (short, record { outstanding = short; waiting = waiting.1 })

pub short-copy : (t : ℕ) (s : LinkState) (o : Outstanding) → IsShort s → s.outstanding ≡ Some o
    → (length o.datagram ≤ 2024) × IsShort (given_out (with_copy t s o))
short-copy t s o h is =
    let short : length o.datagram ≤ 2024 = subst IsShortOut is h.outstanding in
    (short, record { outstanding = short; waiting = h.waiting })

pub short-queued : (t : ℕ) (s : LinkState) (token text : List ℕ) (word : ℕ) → IsShort s
    → length text ≤ 2024 → IsShort (queued t (waits token text word) s)
short-queued t s token text word h short = record {
  outstanding = h.outstanding;
  waiting = all-push (λ (v : Waiting). length v.datagram ≤ MAX_MESSAGE_LEN) s.waiting
      (waits token text word) h.waiting short;
}

short-unless : (b : Bool) (v : Option Outstanding) → IsShortOut v → IsShortOut (cond b None v)
short-unless true v h = tt
short-unless false v h = h

pub short-heard : (t mid : ℕ) (token : List ℕ) (gone : List ℕ → Bool) (v : Verdict) (s : LinkState) → IsShort s
    → IsShort (heard_link t mid token gone v s)
short-heard t mid token gone v s h = record
    { outstanding = short-unless v.ends s.outstanding h.outstanding; waiting = h.waiting }

-- a tick

short-passed : (t : ℕ) (gone : List ℕ → Bool) (s : LinkState) → IsShort s
    → IsShort (passed_link t gone s)
short-passed t gone s h = record {
  outstanding = short-unless (is_over t s.outstanding) s.outstanding h.outstanding;
  waiting = all-filter (λ (v : Waiting). length v.datagram ≤ MAX_MESSAGE_LEN)
      (λ (w : Waiting). not (gone w.token)) s.waiting h.waiting;
}

pub peers-passed : (t : ℕ) (S : State) (xs : List PeerLink)
    → map peer_of (map (passed t S) xs) ≡ map peer_of xs
peers-passed t S [] = refl
peers-passed t S (x ∷ xs) = rw (peers-passed t S xs) refl

all-short-passed : (t : ℕ) (S : State) (xs : List PeerLink) → AreShort xs
    → AreShort (map (passed t S) xs)
all-short-passed t S [] a = tt
all-short-passed t S (x ∷ xs)
    a = (short-passed t (is_gone t S) x.link a.0, all-short-passed t S xs a.1)

pub tidy-passed : (t : ℕ) (S : State) (xs : List PeerLink) → Tidy xs → Tidy (map (passed t S) xs)
tidy-passed t S xs h = record {
  short = all-short-passed t S xs h.short;
  apart = subst AreApart (sym (peers-passed t S xs))
      h.apart;
}
