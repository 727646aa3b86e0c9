-- Who asked.
use Rattle.std.specs.Prelude.{ℕ, ◌+◌, ◌%◌, List, [], ◌∷◌, ◌++◌, map, Bool, if◌then◌else◌}
use Rattle.std.specs.List.{list_any, find}
use Rattle.std.specs.Option.{option_map_or}
use Rattle.uri_map.specs.declared.peer.Peer.{Peer}
use Rattle.uri_map.specs.Peers.{same_peer}
use Rattle.coap_codec.specs.declared.message.MsgType.{MsgType}
use Rattle.coap_codec.specs.declared.message.MsgType.TheVariants.{Con, Non, Ack, Rst}
use Rattle.demo_origin.specs.declared.state.Client.{Client}

abbrev pub is_client : Peer → Client → Bool
is_client p c = same_peer c.peer p

-- the message ID of the next message to the peer that isn't piggybacked (RFC 7252, section 5.2)
abbrev pub own_mid : Peer → List Client → ℕ
own_mid p clients = option_map_or (λ (c : Client). c.next_mid) (find (is_client p) clients) 0

abbrev pub after_answer : MsgType → ℕ → ℕ
after_answer Con n = n
after_answer Non n = (n + 1) % 65536
after_answer Ack n = n
after_answer Rst n = n

abbrev pub stepped : ℕ → Peer → MsgType → Client → Client
stepped t p kind c =
    if is_client p c
    then (record c { next_mid = after_answer kind c.next_mid; moment = t }) else c

abbrev pub first_known : ℕ → Peer → MsgType → Client
first_known t p kind = record { peer = p; next_mid = after_answer kind 0; moment = t }

-- The peers that are known after an answer to a message of that type. Only one to a NON has an ID
-- of the device's own.
abbrev pub known_after : ℕ → Peer → MsgType → List Client → List Client
known_after t p kind clients =
    if list_any (is_client p) clients then map (stepped t p kind) clients
    else (clients ++ first_known t p kind ∷ [])
