-- Which ACK or RST a datagram is answered by (RFC 7252 sections 4.2, 4.3, 4.5).
use Rattle.std.specs.Prelude.{List, [], ◌∷◌, Option, Some, None, is_some, ◌==◌}
use Rattle.coap_codec.specs.declared.message.MsgType.{MsgType}
use Rattle.coap_codec.specs.declared.message.MsgType.TheVariants.{Con, Ack, Rst}
use Rattle.coap_codec.specs.Recognition.{is_rejected}
use Rattle.journal_book.specs.Entries.{Deed, Hears}
use Rattle.history_laws.specs.Confirmations.{answer_by, Confirmation, given, rejects_bytes}
use Rattle.history_laws.specs.Readings.{Noted, Note, Says, Repeats, Garbled, Recalls, Answered, Acknowledged, Rejected, Ignored, at}

-- The kind of the message that answers what repeats no other: a CON is acknowledged where it
-- answers a first sending and can be processed.
abbrev pub answer_kind : Answered → Option MsgType
answer_kind Acknowledged = Some Ack
answer_kind Rejected = Some Rst
answer_kind Ignored = None

abbrev pub answered : Note → Option MsgType
answered (Says m to notice) = answer_by m.kind (is_some to) (is_rejected m) (m.code == 0)
answered (Recalls m answer) = answer_kind answer
answered _ = None

abbrev pub answered_as : Option Noted → Option MsgType
answered_as None = None
answered_as (Some x) = answered x.note

-- A repeated CON is answered as the message that it repeats was, and a repeated NON not at all.
abbrev pub answered_again : MsgType → Option MsgType → Option MsgType
answered_again Con first = first
answered_again _ first = None

-- what the datagram, heard after this history, asks for
abbrev pub owed_by : List Noted → Deed → Note → Option Confirmation
owed_by l (Hears p b) (Says m to notice) = given p m.mid (answered (Says m to notice))
owed_by l (Hears p b) (Repeats m j) = given p m.mid (answered_again m.kind (answered_as (at l j)))
owed_by l (Hears p b) Garbled = rejects_bytes p b
owed_by l _ _ = None

-- what the newest entry asks for
abbrev pub owed : List Noted → Option Confirmation
owed [] = None
owed (x ∷ older) = owed_by older x.written.deed x.note
