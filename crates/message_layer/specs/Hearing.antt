-- What a datagram of the peer's does to a link (RFC 7252, sections 4.2, 4.3, 4.5 and 5.3.2).
use Rattle.std.specs.Prelude.{ℕ, ◌+◌, ◌*◌, ◌/◌, ◌%◌, List, [], ◌∷◌, ◌++◌, length, map, filter, count_by, Option, Some, None, Result, Ok, Err, Bool, true, false, nat_lt, ◌==◌, ◌&&◌, if◌then◌else◌}
use Rattle.std.specs.List.{list_any, find}
use Rattle.std.specs.Str.{bytes_eq}
use Rattle.limits.specs.declared.TheConstants.{MAX_DATAGRAM_LEN, MAX_REMEMBERED}
use Rattle.coap_codec.specs.Spelling.{Content}
use Rattle.coap_codec.specs.Reading.{message_at}
use Rattle.coap_codec.specs.declared.fault.CodecFault.{CodecFault}
use Rattle.coap_codec.specs.declared.message.MsgType.{MsgType}
use Rattle.coap_codec.specs.declared.message.MsgType.TheVariants.{Con, Non, Ack, Rst}
use Rattle.coap_codec.specs.Recognition.{is_rejected}
pub use Rattle.message_layer.specs.Remembering.{is_fresh, is_repeat}
use Rattle.message_layer.specs.Values.{LinkState, Told, no_news, response, was_reset, was_dropped}
use Rattle.message_layer.specs.Sending.{next_sent}
use Rattle.message_layer.specs.declared.state.Outstanding.{Outstanding}
use Rattle.message_layer.specs.declared.state.Awaited.{Awaited}
use Rattle.message_layer.specs.declared.state.Heard.{Heard}
use Rattle.message_layer.specs.declared.state.Reply.{Reply}
use Rattle.message_layer.specs.declared.state.Reply.TheVariants as reply
use Rattle.message_layer.specs.declared.verdict.News.{News}
use Rattle.message_layer.specs.declared.verdict.News.TheVariants.{Quiet, Response, Reset, Lost}
use Rattle.message_layer.specs.declared.verdict.Verdict.{Verdict}

abbrev pub is_awaited : List ℕ → Awaited → Bool
is_awaited token a = bytes_eq a.token token

abbrev pub mid_is : ℕ → Option ℕ → Bool
mid_is mid None = false
mid_is mid (Some n) = n == mid

-- a response in an ACK has the ID and the token of its request
abbrev pub is_awaited_by_ack : ℕ → List ℕ → Awaited → Bool
is_awaited_by_ack mid token a = mid_is mid a.mid && bytes_eq a.token token

abbrev pub is_outstanding_under : List ℕ → Option Outstanding → Bool
is_outstanding_under token None = false
is_outstanding_under token (Some o) = bytes_eq o.token token

abbrev pub is_outstanding_as : ℕ → Option Outstanding → Bool
is_outstanding_as mid None = false
is_outstanding_as mid (Some o) = o.mid == mid

abbrev pub ignored : Verdict
ignored = record { reply = reply.Nothing; remembered = false; ends = false; news = Quiet }

-- A CON or NON that was not heard before: an empty one, a response that is awaited, or one that is
-- reset. A response that can't be processed is told too, and reset.
abbrev pub new_verdict : LinkState → Content → Reply → Reply → Verdict
new_verdict s m accepts empties =
    if m.code == 0
    then (record { reply = empties; remembered = true; ends = false; news = Quiet })
    else (if nat_lt 31 m.code && list_any (is_awaited m.token) s.awaited
    then (record {
      reply = if is_rejected m then reply.Rst else accepts;
      remembered = true;
      ends = is_outstanding_under m.token s.outstanding;
      news = Response;
    })
    else (record { reply = reply.Rst; remembered = true; ends = false; news = Quiet }))

-- One that was heard before gets the same answer again, and is not processed; where 1,024 are
-- remembered a further one counts as lost. An empty CON is a ping, which is reset.
abbrev pub heard_verdict : ℕ → LinkState → Content → Bool → Option Heard → Verdict
heard_verdict t s m confirms (Some h) = record {
  reply = if confirms then h.reply else reply.Nothing;
  remembered = false;
  ends = false;
  news = Quiet;
}
heard_verdict t s m confirms None =
    if nat_lt (count_by (is_fresh t) s.heard) MAX_REMEMBERED
    then new_verdict s m (if confirms then reply.Ack else reply.Nothing)
    (if confirms then reply.Rst else reply.Nothing)
    else (record { reply = reply.Nothing; remembered = false; ends = false; news = Lost })

-- An ACK ends the interaction with its ID; with a response it has to have the token too. It is
-- never answered.
abbrev pub ack_verdict : LinkState → Content → Verdict
ack_verdict s m =
    if m.code == 0
    then (record {
      reply = reply.Nothing;
      remembered = false;
      ends = is_outstanding_as m.mid s.outstanding;
      news = Quiet;
    })
    else (if nat_lt 31 m.code
    then (record {
      reply = reply.Nothing;
      remembered = false;
      ends = is_outstanding_as m.mid s.outstanding && is_outstanding_under m.token s.outstanding;
      news = if list_any (is_awaited_by_ack m.mid m.token) s.awaited then Response else Quiet;
    })
    else ignored)

-- An RST is empty and has the ID of the message that it rejects.
abbrev pub rst_verdict : Content → Option Outstanding → Verdict
rst_verdict m None = ignored
rst_verdict m (Some o) =
    if (m.code == 0) && (o.mid == m.mid)
    then (record { reply = reply.Nothing; remembered = false; ends = true; news = Reset o.token })
    else ignored

abbrev pub verdict_by : ℕ → LinkState → Content → MsgType → Verdict
verdict_by t s m Con = heard_verdict t s m true (find (is_repeat t m.mid) s.heard)
verdict_by t s m Non = heard_verdict t s m false (find (is_repeat t m.mid) s.heard)
verdict_by t s m Ack = ack_verdict s m
verdict_by t s m Rst = rst_verdict m s.outstanding

abbrev pub verdict_of : ℕ → LinkState → Content → Verdict
verdict_of t s m = verdict_by t s m m.kind

-- the datagrams of an answer: an empty ACK or RST with the ID
abbrev pub replies : ℕ → Reply → List (List ℕ)
replies mid reply.Nothing = []
replies mid reply.Ack = (96 ∷ 0 ∷ (mid / 256) ∷ (mid % 256) ∷ []) ∷ []
replies mid reply.Rst = (112 ∷ 0 ∷ (mid / 256) ∷ (mid % 256) ∷ []) ∷ []

abbrev pub listed : Option (List ℕ) → List (List ℕ)
listed None = []
listed (Some x) = x ∷ []

abbrev pub remembered_in : ℕ → ℕ → Reply → Bool → List Heard → List Heard
remembered_in t mid r false heard = heard
remembered_in t mid r true heard =
    filter (is_fresh t) heard ++ record { mid = mid; moment = t; reply = r } ∷ []

-- an ACK may carry the response no more
abbrev pub answered : List ℕ → Awaited → Awaited
answered token a = if bytes_eq a.token token then (record { token = a.token; mid = None }) else a

abbrev pub answered_in : List ℕ → News → List Awaited → List Awaited
answered_in token Response awaited = map (answered token) awaited
answered_in token Quiet awaited = awaited
answered_in token (Reset of) awaited = awaited
answered_in token Lost awaited = awaited

abbrev pub ended : ℕ → Bool → LinkState → LinkState
ended t false s = s
ended t true s = next_sent t s

-- the answer goes out first, and then the message that had to wait
abbrev pub applied : ℕ → ℕ → List ℕ → Verdict → LinkState → LinkState
applied t mid token v s = ended t v.ends (record {
  waiting = s.waiting;
  outstanding = s.outstanding;
  last_mid = s.last_mid;
  given = s.given;
  awaited = answered_in token v.news s.awaited;
  heard = remembered_in t mid v.reply v.remembered s.heard;
  out = s.out ++ replies mid v.reply;
})

abbrev pub says : News → Content → Told
says Quiet m = no_news
says Response m = response m
says (Reset token) m = was_reset token
says Lost m = was_dropped

abbrev pub takes : ℕ → Content → LinkState → LinkState × Told
takes t m s = (applied t m.mid m.token (verdict_of t s m) s, says (verdict_of t s m).news m)

-- what is no message but shows four bytes of a CON of version 1 has an ID (section 4.2)
abbrev pub reset_for : List ℕ → Option ℕ
reset_for [] = None
reset_for (a ∷ []) = None
reset_for (a ∷ b ∷ []) = None
reset_for (a ∷ b ∷ c ∷ []) = None
reset_for (a ∷ b ∷ c ∷ d ∷ rest) = if a / 16 == 4 then Some (256 * c + d) else None

abbrev pub undecoded : Option ℕ → LinkState → LinkState
undecoded None s = s
undecoded (Some mid) s = record {
  waiting = s.waiting;
  outstanding = s.outstanding;
  last_mid = s.last_mid;
  given = s.given;
  awaited = s.awaited;
  heard = s.heard;
  out = s.out ++ replies mid reply.Rst;
}

abbrev pub hears_read : ℕ → List ℕ → LinkState → Result Content CodecFault → LinkState × Told
hears_read t d s (Ok m) = takes t m s
hears_read t d s (Err e) = (undecoded (reset_for d) s, no_news)

abbrev pub hears_from : ℕ → List ℕ → LinkState → Option ℕ → LinkState × Told
hears_from t d s None = (s, was_dropped)
hears_from t d s (Some mid) =
    if nat_lt MAX_DATAGRAM_LEN (length d) then (s, was_dropped) else hears_read t d s (message_at d)

-- A datagram above 2,048 bytes, or from a peer to which nothing was sent, counts as lost.
abbrev pub hears : ℕ → List ℕ → LinkState → LinkState × Told
hears t d s = hears_from t d s s.last_mid
