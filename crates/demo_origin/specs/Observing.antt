-- Who is told of changes: registrations (RFC 7641, sections 2, 3 and 4.1).
use Rattle.std.specs.Prelude.{ℕ, List, [], ◌∷◌, ◌++◌, map, filter, length, count_by, Option, Some, None, Bool, false, not, nat_lt, nat_le, ◌==◌, ◌&&◌, ◌||◌, if◌then◌else◌}
use Rattle.std.specs.List.{list_any}
use Rattle.std.specs.Str.{bytes_eq}
use Rattle.uri_map.specs.declared.peer.Peer.{Peer}
use Rattle.coap_codec.specs.Values.{uint}
use Rattle.demo_origin.specs.Values.{Device}
use Rattle.uri_map.specs.Peers.{same_peer}
use Rattle.demo_origin.specs.declared.state.Notification.{Notification}
use Rattle.demo_origin.specs.declared.state.Observer.{Observer}
use Rattle.demo_origin.specs.declared.observers.Wish.{Wish}
use Rattle.demo_origin.specs.declared.observers.Wish.TheVariants.{Register, Deregister, Nothing}

-- what the value of an Observe in a GET asks for; any other is ignored (section 2)
abbrev pub wish_by : List ℕ → Wish
wish_by v =
    if nat_le (length v) 3
    then (if uint v == 0 then Register else (if uint v == 1 then Deregister else Nothing))
    else Nothing

-- what the first of the values says
abbrev pub wish_of : List (List ℕ) → Wish
wish_of [] = Nothing
wish_of (v ∷ vs) = wish_by v

-- the registration of a peer for a resource, under a token (section 4.1)
abbrev pub is_entry : Peer → ℕ → List ℕ → Observer → Bool
is_entry p i token o = same_peer o.peer p && ((o.place == i) && bytes_eq o.token token)

abbrev pub is_no_entry : Peer → ℕ → List ℕ → Observer → Bool
is_no_entry p i token o = not (is_entry p i token o)

abbrev pub is_for : ℕ → Observer → Bool
is_for i o = o.place == i

-- A resource has 16 observers at most.
abbrev pub has_place : ℕ → List Observer → Bool
has_place i os = nat_lt (count_by (is_for i) os) 16

abbrev pub is_granted : Wish → Peer → ℕ → List ℕ → List Observer → Bool
is_granted Register p i token os = list_any (is_entry p i token) os || has_place i os
is_granted Deregister p i token os = false
is_granted Nothing p i token os = false

-- it was told of that version, by the answer to its request
abbrev pub newcomer : Peer → ℕ → List ℕ → ℕ → Observer
newcomer p i token version = record {
  peer = p;
  token = token;
  place = i;
  told = version;
  outstanding = None;
}

-- A registration that stands already stays as it is.
abbrev pub enlisted : Wish → Peer → ℕ → List ℕ → ℕ → List Observer → List Observer
enlisted Register p i token version os =
    if list_any (is_entry p i token) os then os
    else (if has_place i os then os ++ newcomer p i token version ∷ [] else os)
enlisted Deregister p i token version os = filter (is_no_entry p i token) os
enlisted Nothing p i token version os = os

-- What a GET leaves that isn't answered by a state: it registers nobody, and Observe 1 ends the
-- registration all the same (section 3.6).
abbrev pub left_by : Wish → Peer → ℕ → List ℕ → List Observer → List Observer
left_by Register p i token os = os
left_by Deregister p i token os = filter (is_no_entry p i token) os
left_by Nothing p i token os = os

abbrev pub has_mid : ℕ → Option Notification → Bool
has_mid mid None = false
has_mid mid (Some n) = n.mid == mid

-- the notification with that ID was sent to the peer, and isn't acknowledged
abbrev pub is_sent_as : Peer → ℕ → Observer → Bool
is_sent_as p mid o = same_peer o.peer p && has_mid mid o.outstanding

abbrev pub is_not_sent_as : Peer → ℕ → Observer → Bool
is_not_sent_as p mid o = not (is_sent_as p mid o)

abbrev pub relieved : Peer → ℕ → Observer → Observer
relieved p mid o = if is_sent_as p mid o then (record o { outstanding = None }) else o

-- an ACK ends the notification
abbrev pub acknowledged : Peer → ℕ → Device → Device
acknowledged p mid s = record s { observers = map (relieved p mid) s.observers }

-- an RST ends the registration too (section 3.6)
abbrev pub rejected : Peer → ℕ → Device → Device
rejected p mid s = record s { observers = filter (is_not_sent_as p mid) s.observers }

-- the peer is told of some resource
abbrev pub is_observer : Peer → Observer → Bool
is_observer p o = same_peer o.peer p
