-- What a link keeps of a history: the part of it that concerns its peer.
use Rattle.std.specs.Prelude.{◌≡◌, ℕ, ◌+◌, ◌%◌, ◌<◌, ◌≤◌, Bool, false, ◌&&◌, List, [], ◌∷◌, length, filter, count_by, Option, Some, None, is_some, option_map, true, ⊤, ◌||◌}
use Rattle.std.specs.List.{list_any, find}
use Rattle.limits.specs.declared.TheConstants.{ACK_TIMEOUT, LONGEST_ACK_TIMEOUT}
use Rattle.coap_codec.specs.declared.message.MsgType.{MsgType}
use Rattle.coap_codec.specs.declared.message.MsgType.TheVariants.{Ack, Rst}
use Rattle.coap_codec.specs.Spelling.{Content, Spells}
use Rattle.uri_map.specs.declared.peer.Peer.{Peer}
use Rattle.ask_model.specs.Requests.{CoapRequest}
use Rattle.journal_book.specs.Entries.{Sends}
use Rattle.history_laws.specs.Numbering.{token_number}
use Rattle.history_laws.specs.Confirmations.{Confirmation, given}
use Rattle.message_layer.specs.Values.{LinkState}
use Rattle.message_layer.specs.Mids.{is_in_use}
use Rattle.message_layer.specs.Hearing.{is_fresh, is_repeat, is_awaited, is_awaited_by_ack}
use Rattle.message_layer.specs.declared.state.Waiting.{Waiting}
use Rattle.message_layer.specs.declared.state.Outstanding.{Outstanding}
use Rattle.message_layer.specs.declared.state.Heard.{Heard}
use Rattle.message_layer.specs.declared.state.Reply.{Reply}
use Rattle.message_layer.specs.declared.state.Reply.TheVariants as R
use Rattle.history_laws.specs.Readings.{Noted, First, noted, at, newest}
use Rattle.history_laws.specs.Transmissions.{FirstSending, firsts, first_at, last_sent, is_recent, bears_token, mids_used, Transmission, transmission, outstanding}
use Rattle.history_laws.specs.Progress.{progress, next_message}
use Rattle.history_laws.specs.Exchanges.{begun, heard_for, rank, awaited, waiting}
use Rattle.history_laws.specs.Observing.{manner, watched}
use Rattle.history_laws.specs.Hearing.{knows, went_under, went_as, heard_before, live_heard}
use Rattle.history_laws.specs.Confirming.{answered_as}

-- the timer of an outstanding message
abbrev pub way_of : Outstanding → Transmission
way_of o = record { timeout = o.timeout; copies = o.retransmissions; last = o.sent }

-- What is outstanding at the peer is this: its bytes, its token and ID, and its timer.
pub record IsOut (l : List Noted) (p : Peer) (o : Outstanding) : Type 0 where
  pub first : FirstSending
  pub timeout : Option ℕ
  pub stands : at l first.number ≡ Some
      (noted first.moment (Sends p o.datagram timeout) (First first.opening first.message))
  pub is : outstanding l p ≡ Some first
  pub way : transmission l first.number ≡ Some (way_of o)
  pub token : first.message.token ≡ o.token
  pub mid : first.message.mid ≡ o.mid

abbrev pub TurnIn : List Noted → Peer → Option Outstanding → Type 0
TurnIn l p None = outstanding l p ≡ None
TurnIn l p (Some o) = IsOut l p o

-- The first sendings to the peer whose IDs are in use yet, the newest first: their IDs count up by
-- one (RFC 7252 section 4.4).
abbrev pub recent_to : List Noted → ℕ → Peer → List FirstSending
recent_to l t p = filter (is_recent t p) (firsts l)

abbrev pub HasMid : ℕ → List FirstSending → Type 0
HasMid mid [] = ⊤
HasMid mid (f ∷ older) = mid ≡ (f.message.mid + 1) % 65536

abbrev pub CountUp : List FirstSending → Type 0
CountUp [] = ⊤
CountUp (f ∷ older) = (f.message.mid < 65536) × HasMid f.message.mid older × CountUp older

-- What is in use no more is nothing to the next ID.
abbrev pub IsLast : ℕ → Peer → Option ℕ → Option FirstSending → Type 0
IsLast t p mid None = ⊤
IsLast t p mid (Some f) = is_recent t p f ≡ true → mid ≡ Some f.message.mid

-- What a history doesn't say of its beginning: from which moment on it is added to, how many tokens
-- were issued before, and how many connections opened. Of a first journal all are 0.
pub record Start : Type 0 where
  pub moment : ℕ
  pub issued : ℕ
  pub opened : ℕ

-- from the beginning and the newest entry on
abbrev pub IsFrom : Start → List Noted → ℕ → Type 0
IsFrom start l t = (start.moment ≤ t) × (newest l ≤ t)

-- The message of an exchange that waits; its token begins with how many were issued before.
pub record IsWaitingFor (start : Start) (l : List Noted) (o : ℕ) (w : Waiting) : Type 0 where
  pub since : ℕ
  pub request : CoapRequest
  pub opening : begun l o ≡ Some (record { since = since; request = request })
  pub message : Content
  pub next : next_message (manner l o) request (progress request (heard_for l o)) 0 w.token
      ≡ Some message
  pub spelled : Spells message w.datagram
  pub token_size : length w.token ≡ 8
  pub token_apart : bears_token l w.token ≡ false
  pub numbered : token_number w.token ≡ start.issued + rank l o
  pub least : ACK_TIMEOUT ≤ w.timeout
  pub greatest : w.timeout ≤ LONGEST_ACK_TIMEOUT

abbrev pub WaitIn : Start → List Noted → List ℕ → List Waiting → Type 0
WaitIn start l [] [] = ⊤
WaitIn start l (o ∷ os) (w ∷ ws) = IsWaitingFor start l o w × WaitIn start l os ws
WaitIn start l _ _ = ⊥

-- a first sending that a reply is awaited to went under the token, or under it and with the ID
abbrev pub awaits : List Noted → Peer → List ℕ → Bool
awaits l p token = list_any (λ (i : ℕ). went_under p token (first_at l i)) (awaited l)

-- notifications come to one that went to the peer under the token
abbrev pub notified : List Noted → Peer → List ℕ → Bool
notified l p token = list_any (λ (i : ℕ). went_under p token (first_at l i)) (watched l)

-- Something is expected under it: a reply, or notifications.
abbrev pub expects : List Noted → Peer → List ℕ → Bool
expects l p token = awaits l p token || notified l p token

abbrev pub awaits_ack : List Noted → Peer → ℕ → List ℕ → Bool
awaits_ack l p mid token = list_any (λ (i : ℕ). went_under p token (first_at l i)
    && went_as p mid (first_at l i)) (awaited l)

-- how a datagram was answered, by the kind of the message
abbrev pub reply_of : Option MsgType → Reply
reply_of (Some Ack) = R.Ack
reply_of (Some Rst) = R.Rst
reply_of _ = R.Nothing

-- the ACK or RST with this ID that a link gives the peer
abbrev pub due : Peer → ℕ → Reply → Option Confirmation
due p mid R.Nothing = None
due p mid R.Ack = given p mid (Some Ack)
due p mid R.Rst = given p mid (Some Rst)

-- From now on a link tells repeats as the history does, and how they are answered.
pub record HeardIn (start : Start) (l : List Noted) (p : Peer) (heard : List Heard) : Type 0 where
  pub repeats : (t mid : ℕ) → IsFrom start l t
      → option_map (λ (h : Heard). h.reply) (find (is_repeat t mid) heard)
      ≡ option_map (λ (j : ℕ). reply_of (answered_as (at l j))) (heard_before l t p mid)
  pub live : (t : ℕ) → IsFrom start l t → count_by (is_fresh t) heard ≡ live_heard l t p

-- The link keeps what the history says of its peer.
pub record Agrees (start : Start) (l : List Noted) (p : Peer) (s : LinkState) : Type 0 where
  pub turn : TurnIn l p s.outstanding
  pub known : is_some s.last_mid ≡ knows l p
  pub last : (t : ℕ) → IsFrom start l t → IsLast t p s.last_mid (last_sent l p)
  pub count_up : (t : ℕ) → IsFrom start l t → CountUp (recent_to l t p)
  pub given : (t : ℕ) → IsFrom start l t → count_by (is_in_use t) s.given ≡ mids_used l t p
  pub waits : WaitIn start l (waiting l p) s.waiting
  pub awaits : (token : List ℕ) → list_any (is_awaited token) s.awaited ≡ expects l p token
  pub acks : (mid : ℕ) (token : List ℕ)
      → list_any (is_awaited_by_ack mid token) s.awaited ≡ awaits_ack l p mid token
  pub heard : HeardIn start l p s.heard
