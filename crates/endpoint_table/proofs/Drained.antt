-- The datagrams of the links were given out, also after a call.
use Rattle.std.proofs.Common.{◌≡◌, Bool, true, false, cond, List, [], ◌∷◌, map, sym, subst}
use Rattle.uri_map.specs.declared.peer.Peer.{Peer}
use Rattle.uri_map.specs.Peers.{same_peer}
use Rattle.message_layer.specs.Values.{LinkState}
use Rattle.exchange_model.specs.State.{PeerLink, with_link}
use Rattle.endpoint_table.specs.declared.endpoint.Endpoint.{Endpoint}
use Rattle.endpoint_table.specs.Tables.{AreDrained, peer_link}

with-one : (p : Peer) (s : LinkState) (xs : List PeerLink) → s.out ≡ [] → AreDrained xs
    → AreDrained (with_link p s xs)
with-one p s [] out a = (out, tt)
with-one p s (x ∷ xs) out a = by (same_peer x.peer p) (with-one p s xs out a.1)
  where
    by : (b : Bool) → AreDrained (with_link p s xs)
        → AreDrained (cond b (record { peer = x.peer; link = s } ∷ xs) (x ∷ with_link p s xs))
    by true rest = (out, a.1)
    by false rest = (a.0, rest)

pub drained-with : (p : Peer) (s : LinkState) (xs ys : List Endpoint) → s.out ≡ []
    → AreDrained (map peer_link xs) → map peer_link ys ≡ with_link p s (map peer_link xs)
    → AreDrained (map peer_link ys)
drained-with p s xs ys out a is = subst AreDrained (sym is) (with-one p s (map peer_link xs) out a)

all-turned : (f : PeerLink → PeerLink) → ((x : PeerLink) → (f x).link.out ≡ [])
    → (xs : List PeerLink) → AreDrained (map f xs)
all-turned f out [] = tt
all-turned f out (x ∷ xs) = (out x, all-turned f out xs)

pub drained-turned : (f : PeerLink → PeerLink) → ((x : PeerLink) → (f x).link.out ≡ [])
    → (xs : List PeerLink) (ys : List Endpoint) → map peer_link ys ≡ map f xs
    → AreDrained (map peer_link ys)
drained-turned f out xs ys is = subst AreDrained (sym is) (all-turned f out xs)
