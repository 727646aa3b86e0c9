-- What a message is known by: where it came from, and its message ID (RFC 7252 section 4.5).
use Rattle.std.specs.Prelude.{ℕ, Bool, ◌&&◌, ◌==◌, List, ◌∷◌, ◌++◌}
use Rattle.std.specs.Net.Addr.{ipv4_octets, ipv6_octets}
use Rattle.std.specs.declared.net.ip_addr.IpAddr.{IpAddr}
use Rattle.std.specs.declared.net.ip_addr.IpAddr.TheVariants.{V4, V6}
use Rattle.std.specs.Hash.{u16}
use Rattle.uri_map.specs.Peers.{same_peer}
use Rattle.journal_copies.specs.declared.source.Source.{Source}

abbrev pub same_source : Source → Source → Bool
same_source a b = same_peer a.peer b.peer && (a.mid == b.mid)

-- what is hashed of it
abbrev pub address_bytes : IpAddr → List ℕ
address_bytes (V4 a) = ipv4_octets a
address_bytes (V6 a) = ipv6_octets a

abbrev pub source_input : Source → List (List ℕ)
source_input x = address_bytes x.peer.address ∷ (u16 x.peer.port ++ u16 x.mid)
