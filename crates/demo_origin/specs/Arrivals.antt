-- Whether a message is a request that is to be processed (RFC 7252, sections 4.2, 4.3 and 4.5).
use Rattle.std.specs.Prelude.{ℕ, ◌-◌, List, length, count_by, Option, Some, None, Bool, true, false, not, nat_lt, nat_le, ◌==◌, ◌&&◌, ◌||◌, if◌then◌else◌}
use Rattle.std.specs.List.{list_any, find}
use Rattle.limits.specs.declared.TheConstants.{EXCHANGE_LIFETIME, MAX_CLIENTS, MAX_REMEMBERED}
use Rattle.uri_map.specs.declared.peer.Peer.{Peer}
use Rattle.coap_codec.specs.Spelling.{Content}
use Rattle.coap_codec.specs.declared.message.MsgType.{MsgType}
use Rattle.coap_codec.specs.declared.message.MsgType.TheVariants.{Con, Non, Ack, Rst}
use Rattle.demo_origin.specs.Values.{Device}
use Rattle.uri_map.specs.Peers.{same_peer}
use Rattle.demo_origin.specs.Peers.{is_client}
use Rattle.demo_origin.specs.Observing.{is_sent_as, is_observer}
use Rattle.demo_origin.specs.declared.state.Observer.{Observer}
use Rattle.demo_origin.specs.declared.state.Client.{Client}
use Rattle.demo_origin.specs.declared.state.Remembered.{Remembered}
use Rattle.demo_origin.specs.declared.arrival.Arrival.{Arrival}
use Rattle.demo_origin.specs.declared.arrival.Arrival.TheVariants.{Ignored, Empty, Rejected, Repeated, Fresh, Acknowledged, Reset}

-- Within this time messages of a peer with the same ID are one and the same (EXCHANGE_LIFETIME,
-- section 4.8.2).
abbrev pub is_live : ℕ → Remembered → Bool
is_live t r = nat_lt (t - r.moment) EXCHANGE_LIFETIME

abbrev pub is_live_of : ℕ → Peer → Remembered → Bool
is_live_of t p r = same_peer r.peer p && is_live t r

-- it is of the same message
abbrev pub is_repeat : ℕ → Peer → ℕ → Remembered → Bool
is_repeat t p mid r = (r.mid == mid) && is_live_of t p r

-- A further peer after 256 counts as lost, and a further message of a peer's after 1,024.
abbrev pub is_full : ℕ → Peer → Device → Bool
is_full t p s =
    (not (list_any (is_client p) s.clients) && nat_le MAX_CLIENTS (length s.clients))
    || nat_le MAX_REMEMBERED (count_by (is_live_of t p) s.remembered)

-- Codes 0.01 to 0.31 are those of requests (section 12.1.1).
abbrev pub is_request : ℕ → Bool
is_request code = nat_lt 0 code && nat_lt code 32

-- one that was heard before: a CON gets again what it got then
abbrev pub heard_again : Bool → Option (List ℕ) → Arrival
heard_again true (Some answer) = Repeated answer
heard_again true None = Ignored
heard_again false answer = Ignored

-- One that is new, and no request, is rejected by an RST: an empty CON is a ping. An empty NON gets
-- nothing (section 4.3).
abbrev pub heard_first : Bool → ℕ → Arrival
heard_first confirms code =
    if is_request code then Fresh
    else (if confirms || not (code == 0) then Rejected else Empty)

abbrev pub arrived : Bool → ℕ → Option Remembered → Bool → Arrival
arrived confirms code (Some r) full = heard_again confirms r.answer
arrived confirms code None full = if full then Ignored else heard_first confirms code

-- what a CON is, or a NON
abbrev pub arrival_of : Bool → ℕ → Peer → Content → Device → Arrival
arrival_of confirms t p m s =
    arrived confirms m.code (find (is_repeat t p m.mid) s.remembered) (is_full t p s)

-- an empty one, with the ID of a notification to the peer that is outstanding
abbrev pub is_heeded : Peer → Content → Device → Bool
is_heeded p m s = (m.code == 0) && list_any (is_sent_as p m.mid) s.observers

abbrev pub arrival_by : MsgType → ℕ → Peer → Content → Device → Arrival
arrival_by Con t p m s = arrival_of true t p m s
arrival_by Non t p m s = arrival_of false t p m s
arrival_by Ack t p m s = if is_heeded p m s then Acknowledged else Ignored
arrival_by Rst t p m s = if is_heeded p m s then Reset else Ignored

abbrev pub arrival : ℕ → Peer → Content → Device → Arrival
arrival t p m s = arrival_by m.kind t p m s

-- A peer is known as long as a message to it may be remembered, or it is told of changes.
abbrev pub is_kept : ℕ → List Observer → Client → Bool
is_kept t os c = nat_lt (t - c.moment) EXCHANGE_LIFETIME || list_any (is_observer c.peer) os
