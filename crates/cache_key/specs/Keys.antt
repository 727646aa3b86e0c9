-- What the response to a GET is kept under (RFC 7252 section 5.6).
use Rattle.std.specs.Prelude.{◌≡◌, ◌↔◌, ℕ, List, Option, Some, None, Bool, true, false, ◌&&◌, ◌==◌}
use Rattle.std.specs.Str.{bytes_eq}
use Rattle.std.specs.Cmp.Lexicographic.{pointwise}
use Rattle.uri_map.specs.declared.peer.Peer.{Peer}
use Rattle.uri_map.specs.declared.target.Host.{Host}
use Rattle.uri_map.specs.declared.target.Host.TheVariants.{Name, V4, V6}
use Rattle.uri_map.specs.declared.target.Target.{Target}
use Rattle.uri_map.specs.Peers.{same_peer}
use Rattle.cache_key.specs.declared.place.Place.{Place}

-- The place that is read, the host that is named, the query, and the format that is wanted: who is
-- asked, and the options of the request that a stored response has to match (RFC 7252 section 5.6).
pub record CacheKey : Type 0 where
  pub place : Place
  pub host : Host
  pub query : List (List ℕ)
  pub accept : Option ℕ

-- the place of the target at the peer
abbrev pub place_of : Peer → Target → Place
place_of peer t = record { peer = peer; path = t.path }

-- the key of a GET of the target at the peer, with that Accept
abbrev pub key_of : Peer → Target → Option ℕ → CacheKey
key_of peer t accept =
    record { place = place_of peer t; host = t.host; query = t.query; accept = accept }

abbrev pub same_texts : List (List ℕ) → List (List ℕ) → Bool
same_texts a b = pointwise bytes_eq a b

abbrev pub same_place : Place → Place → Bool
same_place p q = same_peer p.peer q.peer && same_texts p.path q.path

abbrev pub same_host : Host → Host → Bool
same_host (Name a) (Name b) = bytes_eq a b
same_host (V4 a) (V4 b) = bytes_eq a.octets b.octets
same_host (V6 a) (V6 b) = bytes_eq a.segments b.segments
same_host _ _ = false

abbrev pub same_accept : Option ℕ → Option ℕ → Bool
same_accept None None = true
same_accept (Some m) (Some n) = m == n
same_accept _ _ = false

abbrev pub same_key : CacheKey → CacheKey → Bool
same_key k l =
    same_place k.place l.place
    && (same_host k.host l.host && (same_texts k.query l.query && same_accept k.accept l.accept))

abbrev pub PlacesToldApart : Type 0
PlacesToldApart = (p q : Place) → (same_place p q ≡ true) ↔ (p ≡ q)

abbrev pub KeysToldApart : Type 0
KeysToldApart = (k l : CacheKey) → (same_key k l ≡ true) ↔ (k ≡ l)
