-- What is prepared for a call, before a link changes.
use Rattle.std.specs.Prelude.{◌≡◌, ℕ, ◌≤◌, ◌<◌, List, [], ◌∷◌, ◌++◌, length, Option, Some, None, Result, Ok, Err, Bool, true, false, not, is_some}
use Rattle.std.specs.Option.{option_map}
use Rattle.limits.specs.declared.TheConstants.{MAX_DATAGRAM_LEN, MAX_MESSAGE_IDS, MAX_WAITING}
use Rattle.coap_codec.specs.Spelling.{Content, Spells}
use Rattle.coap_codec.specs.Reading.{message_at}
use Rattle.coap_codec.specs.declared.fault.CodecFault.{CodecFault}
use Rattle.coap_codec.specs.declared.message.MsgType.TheVariants.{Con}
use Rattle.message_layer.specs.Values.{LinkState, LinkValue, IsSoundWaiting, told, no_news, timed_out, was_dropped}
use Rattle.message_layer.specs.Sending.{waits, mids_in_use, IsNext, IsNextOf, again, next_sent, ticked, submitted}
use Rattle.message_layer.specs.Hearing.{verdict_of, ignored, says, replies, listed, applied, takes, reset_for, hears}
use Rattle.message_layer.specs.Calls.{without}
use Rattle.message_layer.specs.declared.state.Waiting.{Waiting}
use Rattle.message_layer.specs.declared.state.Outstanding.{Outstanding}
use Rattle.message_layer.specs.declared.state.Reply.TheVariants as reply
use Rattle.message_layer.specs.declared.verdict.News.{News}
use Rattle.message_layer.specs.declared.verdict.News.TheVariants.{Quiet, Response, Reset, Lost}
use Rattle.message_layer.specs.declared.verdict.Verdict.{Verdict}
use Rattle.message_layer.specs.declared.prepared.FirstSending.{FirstSending}
use Rattle.message_layer.specs.declared.prepared.Submission.{Submission}
use Rattle.message_layer.specs.declared.prepared.Heeding.{Heeding}
use Rattle.message_layer.specs.declared.prepared.Hearing.{Hearing}
use Rattle.message_layer.specs.declared.prepared.Ticking.{Ticking}
use Rattle.message_layer.specs.declared.prepared.Ticking.TheVariants.{Rests, Copies, GivesUp}

-- a CON with this token, spelled under ID 0
pub record IsUnnumberedCon (token text : List ℕ) : Type 0 where
  pub m : Content
  pub spelled : Spells m text
  pub con : m.kind ≡ Con
  pub under : m.token ≡ token
  pub unnumbered : m.mid ≡ 0

-- the message is the next one, where nothing is outstanding
abbrev pub at_once : Waiting → Option Outstanding → List Waiting
at_once w None = w ∷ []
at_once w (Some o) = []

-- it may be taken: a place and an ID are free, and its sending is prepared
pub record MaySubmit (t : ℕ) (link : LinkValue) (x : Submission) : Type 0 where
  pub room : link.room ≡ true
  pub sound : IsSoundWaiting x.waiting
  pub place : length link.state.waiting < MAX_WAITING
  pub free : mids_in_use t link.state < MAX_MESSAGE_IDS
  pub sent : IsNext t link.state.last_mid (at_once x.waiting link.state.outstanding) x.sent

pub record IsSubmission (t : ℕ) (token text : List ℕ) (word : ℕ)
    (link : LinkValue) (x : Submission) : Type 0 where
  pub ready : MaySubmit t link x
  pub waiting : x.waiting ≡ waits token text word

-- the reply is prepared, and the message that goes out next where what is outstanding ends
pub record MayHeed (t : ℕ) (link : LinkValue) (x : Heeding) : Type 0 where
  pub room : link.room ≡ true
  pub reply : listed x.reply ≡ replies x.mid x.verdict.reply
  pub next : x.verdict.ends ≡ true → IsNextOf t link.state x.next
  pub none : x.verdict.ends ≡ false → x.next ≡ None

-- the link as the datagram leaves it
abbrev pub heeded : ℕ → Heeding → LinkState → LinkState
heeded t x s = applied t x.mid x.token x.verdict s

-- ... with the room that there is for this datagram and one message after it
abbrev pub link_after : ℕ → Heeding → LinkValue → LinkValue
link_after t x link = record { state = heeded t x link.state; room = link.room }

-- a message may be taken after a datagram, if one is
abbrev pub MayFollow : ℕ → LinkValue → Heeding → Option Submission → Type 0
MayFollow t link x None = Unit {0}
MayFollow t link x (Some more) = MaySubmit t (link_after t x link) more

-- the message is taken, if there is one
abbrev pub followed : ℕ → Option Submission → LinkState → LinkState
followed t None s = s
followed t (Some more) s = submitted t more.waiting s

-- so many messages are sent
abbrev pub sendings : Option FirstSending → ℕ
sendings None = 0
sendings (Some first) = 1

-- nothing is outstanding: what was has ended, or nothing was, and no other message was sent
abbrev pub is_free : Option FirstSending → Bool → Option Outstanding → Bool
is_free None true o = true
is_free None false o = not (is_some o)
is_free (Some first) ends o = false

abbrev pub is_lost : News → Bool
is_lost Quiet = false
is_lost Response = false
is_lost (Reset token) = false
is_lost Lost = true

-- what a message does and tells
pub record IsOfMessage (t : ℕ) (m : Content) (s : LinkState) (h : Hearing) : Type 0 where
  pub mid : h.heeding.mid ≡ m.mid
  pub token : h.heeding.token ≡ m.token
  pub verdict : h.heeding.verdict ≡ verdict_of t s m
  pub kept : is_lost h.heeding.verdict.news ≡ false
  pub up : told h.up ≡ says h.heeding.verdict.news m

-- nothing is prepared for a message that counts as lost
abbrev pub IsMessage : ℕ → Content → LinkValue → Option Hearing → Type 0
IsMessage t m link None = takes t m link.state ≡ (link.state, was_dropped)
IsMessage t m link (Some h) = MayHeed t link h.heeding × IsOfMessage t m link.state h

-- what is no message is reset, where it shows an ID
abbrev pub unread_verdict : Option ℕ → Verdict
unread_verdict None = ignored
unread_verdict (Some mid) =
    record { reply = reply.Rst; remembered = false; ends = false; news = Quiet }

abbrev pub unread_mid : Option ℕ → ℕ
unread_mid None = 0
unread_mid (Some mid) = mid

pub record IsOfNone (mid : Option ℕ) (h : Hearing) : Type 0 where
  pub mid_is : h.heeding.mid ≡ unread_mid mid
  pub verdict : h.heeding.verdict ≡ unread_verdict mid
  pub up : told h.up ≡ no_news

abbrev pub IsRead : ℕ → List ℕ → LinkState → Result Content CodecFault → Hearing → Type 0
IsRead t d s (Ok m) h = IsOfMessage t m s h
IsRead t d s (Err e) h = IsOfNone (reset_for d) h

-- what a datagram does to a link that doesn't take it as lost
pub record IsHearing (t : ℕ) (d : List ℕ) (link : LinkValue) (h : Hearing) : Type 0 where
  pub ready : MayHeed t link h.heeding
  pub known : is_some link.state.last_mid ≡ true
  pub short : length d ≤ MAX_DATAGRAM_LEN
  pub is : IsRead t d link.state (message_at d) h

-- nothing is prepared for a datagram that counts as lost
abbrev pub IsPreparedFor : ℕ → List ℕ → LinkValue → Option Hearing → Type 0
IsPreparedFor t d link None = hears t d link.state ≡ (link.state, was_dropped)
IsPreparedFor t d link (Some h) = IsHearing t d link h

-- what was prepared for a datagram is what hearing it does and tells
abbrev pub HearsAsPrepared : Type 0
HearsAsPrepared =
    (t : ℕ) (d : List ℕ) (link : LinkValue) (h : Hearing) → IsHearing t d link h
    → let x = h.heeding in
    hears t d link.state ≡ (applied t x.mid x.token x.verdict link.state, told h.up)

-- what is outstanding is sent once more
abbrev pub copied : ℕ → List ℕ → LinkState → LinkState
copied t d s = record s {
  outstanding = option_map (again t) s.outstanding;
  out = s.out ++ d ∷ [];
}

abbrev pub datagram_of : Outstanding → List ℕ
datagram_of o = o.datagram

abbrev pub token_of : Outstanding → List ℕ
token_of o = o.token

pub record MayCopy (t : ℕ) (s : LinkState) (room : Bool) (d : List ℕ) : Type 0 where
  pub has_room : room ≡ true
  pub datagram : option_map datagram_of s.outstanding ≡ Some d
  pub does : ticked t s ≡ (copied t d s, no_news)

pub record MayGiveUp (t : ℕ) (s : LinkState) (room : Bool)
    (token : List ℕ) (next : Option FirstSending) : Type 0 where
  pub has_room : room ≡ true
  pub outstanding : option_map token_of s.outstanding ≡ Some token
  pub sent : IsNextOf t s next
  pub does : ticked t s ≡ (next_sent t s, timed_out token)

-- what a tick does: nothing, one more copy, or the end of what is outstanding
abbrev pub IsTick : ℕ → LinkState → Bool → Ticking → Type 0
IsTick t s room Rests = ticked t s ≡ (s, no_news)
IsTick t s room (Copies d) = MayCopy t s room d
IsTick t s room (GivesUp token next) = MayGiveUp t s room token next

-- ... once what bears one of these tokens is neither awaited nor sent any more
abbrev pub IsTicking : ℕ → List (List ℕ) → LinkValue → Ticking → Type 0
IsTicking t gone link x = IsTick t (without gone link.state) link.room x
