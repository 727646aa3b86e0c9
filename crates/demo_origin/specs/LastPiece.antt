-- What is executed came whole, or this is its last piece (RFC 7959, section 2.5).
use Rattle.std.specs.Prelude.{◌≡◌, ℕ, List, Option, Some, None, Ok, false}
use Rattle.uri_map.specs.declared.peer.Peer.{Peer}
use Rattle.coap_codec.specs.Spelling.{Content}
use Rattle.coap_codec.specs.Reading.{message_at}
use Rattle.coap_codec.specs.Values.{values}
use Rattle.coap_codec.specs.declared.block.Block.{Block}
use Rattle.demo_origin.specs.Values.{Device, Relation}
use Rattle.demo_origin.specs.Blocks.{named_by}
use Rattle.demo_origin.specs.Hearing.{Hears}
use Rattle.demo_origin.specs.declared.execution.Taken.{Taken}

abbrev pub IsLast : Option Block → Type 0
IsLast None = Unit {0}
IsLast (Some b) = b.more ≡ false

-- it names no piece, or the last
pub record EndsBody (datagram : List ℕ) : Type 0 where
  pub message : Content
  pub reads : message_at datagram ≡ Ok message
  pub last : IsLast (named_by (values 27 message.options))

abbrev pub LastPieceExecutes : Relation → Type 0
LastPieceExecutes R =
    (t : ℕ) (p : Peer) (datagram : List ℕ) (old new : Device) (taken : Taken)
    → Hears R t p datagram old new (Some taken) → EndsBody datagram
