-- Numbers by which most keys and places are told apart at once: equal ones have equal numbers.
-- Only the facts that values keep speak of them.
use Rattle.std.specs.Prelude.{ℕ, ◌+◌, ◌*◌, ◌%◌, List, [], Option, Some, None}
use Rattle.std.specs.List.{fold}
use Rattle.std.specs.Hash as fed
use Rattle.std.specs.Hash.FoldHasher as folding
use Rattle.std.specs.Net.Addr.{ipv4_octets, ipv6_octets}
use Rattle.std.specs.declared.net.ip_addr.IpAddr.{IpAddr}
use Rattle.std.specs.declared.net.ip_addr.IpAddr.TheVariants as Ip
use Rattle.std.specs.declared.hash.FoldHasher.{FoldHasher}
use Rattle.uri_map.specs.declared.peer.Peer.{Peer}
use Rattle.uri_map.specs.declared.target.Host.{Host}
use Rattle.uri_map.specs.declared.target.Host.TheVariants.{Name, V4, V6}
use Rattle.cache_key.specs.declared.digest.Digests.{Digests}
use Rattle.cache_key.specs.Keys.{CacheKey}

abbrev pub address_bytes : IpAddr → List ℕ
address_bytes (Ip.V4 a) = ipv4_octets a
address_bytes (Ip.V6 a) = ipv6_octets a

abbrev pub host_bytes : Host → List ℕ
host_bytes (Name name) = name
host_bytes (V4 a) = ipv4_octets a
host_bytes (V6 a) = ipv6_octets a

abbrev pub accept_writes : Option ℕ → List (List ℕ)
accept_writes None = []
accept_writes (Some n) = fed.u16 n

-- the hasher after these writes
abbrev pub fed_on : FoldHasher → List (List ℕ) → FoldHasher
fed_on h writes = fold folding.write h writes

-- the hasher after a place
unfoldable pub place_fed : Peer → List (List ℕ) → FoldHasher
place_fed peer path =
    let address = folding.write folding.initial (address_bytes peer.address) in
    fed_on (fed_on address (fed.u16 peer.port)) path

-- the hasher after what a key has besides its place
unfoldable pub key_fed : FoldHasher → Host → List (List ℕ) → Option ℕ → FoldHasher
key_fed h host query accept =
    fed_on (fed_on (folding.write h (host_bytes host)) query) (accept_writes accept)

unfoldable pub digests_of : CacheKey → Digests
digests_of k =
    let place = place_fed k.place.peer k.place.path in
    let key = key_fed place k.host k.query k.accept in
    record { place = folding.finish place; key = folding.finish key }

-- What keys are sorted by in an index: those of one place are in one row of 65536 numbers.
abbrev pub rank : Digests → ℕ
rank d = d.place % 65536 * 65536 + d.key % 65536

abbrev pub rank_of : CacheKey → ℕ
rank_of k = rank (digests_of k)
