-- Peers, and which one serves a target.
use Rattle.std.specs.Prelude.{ℕ, Bool, false, not, ◌==◌, ◌&&◌, ◌||◌, nat_le, get_or, List, [], ◌∷◌, ◌++◌, Option, Some, None, option_map, option_and_then, codes, decimal, if◌then◌else◌}
use Rattle.std.specs.List.{before_first}
use Rattle.std.specs.Str.{bytes_eq}
use Rattle.std.specs.Net.Addr.{ipv4_octets, ipv6_segments}
use Rattle.std.specs.Net.Text.{ipv4_text, groups_text}
use Rattle.std.specs.declared.net.ipv6_addr.Ipv6Addr.{Ipv6Addr}
use Rattle.std.specs.declared.net.ip_addr.IpAddr.{IpAddr}
use Rattle.std.specs.declared.net.ip_addr.IpAddr.TheVariants as Ip
use Rattle.uri_map.specs.declared.directory.Listed.{Listed}
use Rattle.uri_map.specs.declared.peer.Peer.{Peer}
use Rattle.uri_map.specs.declared.target.Host.{Host}
use Rattle.uri_map.specs.declared.target.Host.TheVariants.{Name, V4, V6}
use Rattle.uri_map.specs.declared.target.Target.{Target}
use Rattle.uri_map.specs.Splitting.{from_first}
use Rattle.uri_map.specs.Authority.{ipv4_of, address_at, written_port}

-- the lines of a directory in order, and whether addresses in targets are taken
pub record Lines : Type 0 where
  pub lines : List Listed
  pub literals : Bool

-- the address of the first line with the name
abbrev pub address_in : List Listed → List ℕ → Option IpAddr
address_in [] name = None
address_in (line ∷ others) name =
    if bytes_eq line.name name then Some line.address else address_in others name

-- Addresses that are no endpoint's: 0.0.0.0 and :: (RFC 1122 section 3.2.1.3, RFC 4291 section
-- 2.5.2), 255.255.255.255 (RFC 919 section 7), and those of groups, to which no CON may be sent:
-- 224.0.0.0/4 and ff00::/8 (RFC 5771 section 3, RFC 4291 section 2.7, RFC 7252 section 8.1).
abbrev pub is_between : ℕ → ℕ → ℕ → Bool
is_between low high n = nat_le low n && nat_le n high

abbrev pub is_no_endpoint : IpAddr → Bool
is_no_endpoint (Ip.V4 a) =
    bytes_eq a.octets (0 ∷ 0 ∷ 0 ∷ 0 ∷ []) || (bytes_eq a.octets (255 ∷ 255 ∷ 255 ∷ 255 ∷ [])
    || is_between 224 239 (get_or a.octets 0 0))
is_no_endpoint (Ip.V6 a) =
    bytes_eq a.segments (0 ∷ 0 ∷ 0 ∷ 0 ∷ 0 ∷ 0 ∷ 0 ∷ 0 ∷ [])
    || is_between 65280 65535 (get_or a.segments 0 0)

-- the address of an endpoint, where addresses in targets are taken
abbrev pub literal : Bool → IpAddr → Option IpAddr
literal taken address = if taken && not (is_no_endpoint address) then Some address else None

abbrev pub host_address : Lines → Host → Option IpAddr
host_address d (Name name) = address_in d.lines name
host_address d (V4 address) = literal d.literals (Ip.V4 address)
host_address d (V6 address) = literal d.literals (Ip.V6 address)

abbrev pub peer_with : ℕ → IpAddr → Peer
peer_with port address = record { address = address; port = port }

-- one endpoint (RFC 7252 section 1.2): the same address and port
abbrev pub same_address : IpAddr → IpAddr → Bool
same_address (Ip.V4 a) (Ip.V4 b) = bytes_eq a.octets b.octets
same_address (Ip.V6 a) (Ip.V6 b) = bytes_eq a.segments b.segments
same_address _ _ = false

abbrev pub same_peer : Peer → Peer → Bool
same_peer p q = same_address p.address q.address && (p.port == q.port)

-- the peer that serves the target
abbrev pub peer_in : Lines → Target → Option Peer
peer_in d t = option_map (peer_with t.port) (host_address d t.host)

-- `192.0.2.1:5683` or `[2001:db8:0:0:0:0:0:1]:5683`
abbrev pub address_text : IpAddr → List ℕ
address_text (Ip.V4 a) = ipv4_text (ipv4_octets a)
address_text (Ip.V6 a) = codes "[" ++ groups_text (ipv6_segments a) ++ codes "]"

abbrev pub peer_text : Peer → List ℕ
peer_text p = address_text p.address ++ codes ":" ++ decimal p.port

-- the address in plain brackets at the front, and what stands after it
abbrev pub behind_byte : ℕ → List ℕ → Option (List ℕ)
behind_byte b [] = None
behind_byte b (first ∷ rest) = if first == b then Some rest else None

unfoldable pub plain_at : List ℕ → Option (Ipv6Addr × List ℕ)
plain_at text =
    option_and_then (λ inner. option_and_then
    (λ x. option_map (λ rest. (x.0, rest)) (behind_byte 93 x.1)) (address_at inner))
    (behind_byte 91 text)

abbrev pub v4_peer : List ℕ → Option Peer
v4_peer text =
    option_and_then (λ a. option_map (λ port. peer_with port (Ip.V4 a))
    (written_port (from_first (λ b. b == 58) text)))
    (ipv4_of (before_first (λ b. b == 58) text))

abbrev pub peer_of_parts : Option (Ipv6Addr × List ℕ) → List ℕ → Option Peer
peer_of_parts None text = v4_peer text
peer_of_parts (Some x) text = option_map (λ port. peer_with port (Ip.V6 x.0)) (written_port x.1)

-- the peer that the text names
unfoldable pub peer_named : List ℕ → Option Peer
peer_named text = peer_of_parts (plain_at text) text
