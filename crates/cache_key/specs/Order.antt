-- The order in which places and keys stand in an index.
use Rattle.std.specs.Prelude.{◌≡◌, ◌↔◌, ℕ, List, ◌∷◌}
use Rattle.std.specs.Cmp.{IsTotalOrder}
use Rattle.std.specs.Cmp.Lexicographic.{slice_cmp}
use Rattle.std.specs.Option.{option_cmp}
use Rattle.std.specs.declared.cmp.Ordering.{Ordering}
use Rattle.std.specs.declared.cmp.Ordering.TheVariants.{Equal}
use Rattle.std.specs.Ordering.{nat_cmp, ordering_then}
use Rattle.std.specs.declared.net.ip_addr.IpAddr.{IpAddr}
use Rattle.std.specs.declared.net.ip_addr.IpAddr.TheVariants as Ip
use Rattle.uri_map.specs.declared.target.Host.{Host}
use Rattle.uri_map.specs.declared.target.Host.TheVariants.{Name, V4, V6}
use Rattle.cache_key.specs.declared.place.Place.{Place}
use Rattle.cache_key.specs.Keys.{CacheKey}

-- IPv4 addresses before IPv6 ones, and those of a kind by their parts
abbrev pub address_numbers : IpAddr → List ℕ
address_numbers (Ip.V4 a) = 0 ∷ a.octets
address_numbers (Ip.V6 a) = 1 ∷ a.segments

abbrev pub address_cmp : IpAddr → IpAddr → Ordering
address_cmp a b = slice_cmp nat_cmp (address_numbers a) (address_numbers b)

-- names before addresses
abbrev pub host_numbers : Host → List ℕ
host_numbers (Name name) = 0 ∷ name
host_numbers (V4 a) = 1 ∷ a.octets
host_numbers (V6 a) = 2 ∷ a.segments

abbrev pub host_cmp : Host → Host → Ordering
host_cmp a b = slice_cmp nat_cmp (host_numbers a) (host_numbers b)

-- by the first text that differs, and that by its first byte that does
abbrev pub texts_cmp : List (List ℕ) → List (List ℕ) → Ordering
texts_cmp a b = slice_cmp (slice_cmp nat_cmp) a b

-- by the peer, and then by the path
abbrev pub place_cmp : Place → Place → Ordering
place_cmp p q =
    ordering_then (address_cmp p.peer.address q.peer.address)
    (ordering_then (nat_cmp p.peer.port q.peer.port) (texts_cmp p.path q.path))

-- by the place, then the host, the query and the format; none before any
abbrev pub key_cmp : CacheKey → CacheKey → Ordering
key_cmp k l =
    ordering_then (place_cmp k.place l.place)
    (ordering_then (host_cmp k.host l.host)
    (ordering_then (texts_cmp k.query l.query) (option_cmp nat_cmp k.accept l.accept)))

-- It is a total order, and passes two for the same exactly where they are equal.
pub record TellsApart {K : Type 0} (cmp : K → K → Ordering) : Type 0 where
  pub total : IsTotalOrder cmp
  pub equal : (k l : K) → (cmp k l ≡ Equal) ↔ (k ≡ l)
