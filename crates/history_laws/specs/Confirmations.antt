-- Which ACK or RST a datagram is answered by (RFC 7252 sections 4.2, 4.3, 4.5).
use Rattle.std.specs.Prelude.{ℕ, ◌+◌, ◌*◌, ◌/◌, Bool, not, ◌&&◌, List, [], ◌∷◌, Option, Some, None, ◌==◌, if◌then◌else◌}
use Rattle.coap_codec.specs.declared.message.MsgType.{MsgType}
use Rattle.coap_codec.specs.declared.message.MsgType.TheVariants.{Con, Non, Ack, Rst}
use Rattle.coap_codec.specs.Spelling.{Content}
use Rattle.uri_map.specs.declared.peer.Peer.{Peer}

-- an empty message (RFC 7252 section 4.1)
abbrev pub empty : MsgType → ℕ → Content
empty kind mid = record { kind = kind; code = 0; mid = mid; token = []; options = []; payload = [] }

-- The kind of the message that answers one that is no repeat. A CON is acknowledged where it is a
-- response that is matched, and rejected by a RST where it is any other message or can't be
-- processed; a NON is rejected likewise, but for an empty one.
abbrev pub answer_by : MsgType → Bool → Bool → Bool → Option MsgType
answer_by Con matched rejected vain = if matched && not rejected then Some Ack else Some Rst
answer_by Non matched rejected vain =
    if matched then (if rejected then Some Rst else None) else (if vain then None else Some Rst)
answer_by _ matched rejected vain = None

-- what is given: to whom, of which kind, and with which ID
pub record Confirmation : Type 0 where
  pub peer : Peer
  pub kind : MsgType
  pub mid : ℕ

abbrev pub given : Peer → ℕ → Option MsgType → Option Confirmation
given p mid None = None
given p mid (Some kind) = Some (record { peer = p; kind = kind; mid = mid })

-- A datagram that is no message, but begins as a CON does, is rejected (RFC 7252 section 4.2).
abbrev pub rejects_bytes : Peer → List ℕ → Option Confirmation
rejects_bytes p (first ∷ code ∷ high ∷ low ∷ more) =
    if first / 16 == 4 then given p (256 * high + low) (Some Rst) else None
rejects_bytes p _ = None
