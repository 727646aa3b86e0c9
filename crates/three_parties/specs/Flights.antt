-- Datagrams on their way between the proxy and the device.
use Rattle.std.specs.Prelude.{ℕ, ◌+◌, List, [], ◌∷◌, Option, Some, None, nat_lt, if◌then◌else◌}
use Rattle.std.specs.declared.net.ip_addr.IpAddr.TheVariants as Ip
use Rattle.uri_map.specs.declared.peer.Peer.{Peer}
use Rattle.uri_map.specs.Peers.{same_peer}
use Rattle.exchange_core.specs.Values.{Outgoing, outgoing_of}
use Rattle.demo_origin.specs.declared.state.Datagram.{Datagram}
use Rattle.three_parties.specs.declared.flight.Flight.{Flight}
use Rattle.three_parties.specs.declared.flight.Sent.{Sent}
use Rattle.three_parties.specs.declared.flight.Sent.TheVariants as S
use Rattle.story_laws.specs.declared.TheConstants.{LONGEST_WAY}

-- where the device takes datagrams, and where it sees the proxy: at the port of CoAP (RFC 7252
-- section 6.1)
abbrev pub device_at : Peer
device_at = record { address = Ip.V4 (record { octets = 192 ∷ 0 ∷ 2 ∷ 1 ∷ [] }); port = 5683 }

abbrev pub proxy_at : Peer
proxy_at = record { address = Ip.V4 (record { octets = 198 ∷ 51 ∷ 100 ∷ 1 ∷ [] }); port = 5683 }

pub data Sender : Type 0 where
  ByProxy : Sender
  ByDevice : Sender

-- a datagram that was sent: when, by whom, to whom, and its bytes
pub record Going : Type 0 where
  pub moment : ℕ
  pub by : Sender
  pub peer : Peer
  pub bytes : List ℕ

abbrev pub by_proxy : ℕ → Outgoing → Going
by_proxy t d = record { moment = t; by = ByProxy; peer = d.peer; bytes = d.bytes }

abbrev pub by_device : ℕ → Datagram → Going
by_device t d = record { moment = t; by = ByDevice; peer = d.peer; bytes = d.bytes }

abbrev pub going_as : ℕ → Sent → Going
going_as t (S.Proxy d) = by_proxy t (outgoing_of d)
going_as t (S.Device d) = by_device t d

abbrev pub going : Flight → Going
going f = going_as f.moment f.sent

-- where a delivery brings a datagram, which has these bytes
pub data Reach : Type 0 where
  ToProxy : List ℕ → Reach
  ToDevice : List ℕ → Reach
  Nowhere : Reach

-- What one of the two sends to the other reaches it; what goes elsewhere reaches nobody here.
abbrev pub reach_by : Sender → Peer → List ℕ → Reach
reach_by ByProxy p bytes = if same_peer p device_at then ToDevice bytes else Nowhere
reach_by ByDevice p bytes = if same_peer p proxy_at then ToProxy bytes else Nowhere

-- It does so for 100 seconds (MAX_LATENCY, RFC 7252 section 4.8.2).
abbrev pub reach : ℕ → Option Going → Reach
reach t None = Nowhere
reach t (Some g) =
    if nat_lt (g.moment + LONGEST_WAY) t then Nowhere else reach_by g.by g.peer g.bytes
