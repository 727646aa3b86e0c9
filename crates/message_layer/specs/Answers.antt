-- What a link answers and tells in a whole run (RFC 7252, sections 4.2, 4.3 and 4.5).
use Rattle.std.specs.Prelude.{◌≡◌, ◌≢◌, ℕ, ◌+◌, ◌<◌, ◌≤◌, List, [], ◌∷◌, ◌++◌, length, filter, count_by, Option, Some, None, Result, Ok, Err, Bool, true, false, not, ◌⊎◌, nat_lt, ◌==◌, ◌&&◌, if◌then◌else◌}
use Rattle.std.specs.List.{find, list_any}
use Rattle.limits.specs.declared.TheConstants.{EXCHANGE_LIFETIME, MAX_DATAGRAM_LEN, MAX_REMEMBERED}
use Rattle.coap_codec.specs.Spelling.{Content}
use Rattle.coap_codec.specs.Reading.{message_at}
use Rattle.coap_codec.specs.declared.fault.CodecFault.{CodecFault}
use Rattle.coap_codec.specs.declared.message.MsgType.{MsgType}
use Rattle.coap_codec.specs.declared.message.MsgType.TheVariants.{Con, Non, Ack, Rst}
use Rattle.coap_codec.specs.Recognition.{is_rejected}
use Rattle.message_layer.specs.Values.{LinkState, Told, no_news, response, was_reset, was_dropped, is_con}
use Rattle.message_layer.specs.Hearing.{is_fresh, is_repeat, is_awaited, is_awaited_by_ack, replies, reset_for}
use Rattle.message_layer.specs.Runs.{Call, submit, hear, tick, forget, expect, take_send, refuse, Step, IsRun, transmissions}
use Rattle.message_layer.specs.Transmissions.{mid_of}
use Rattle.message_layer.specs.Awaiting.{token_of, awaits, awaits_ack, outstanding_of}
use Rattle.message_layer.specs.declared.state.Outstanding.{Outstanding}
use Rattle.message_layer.specs.declared.state.Heard.{Heard}
use Rattle.message_layer.specs.declared.state.Reply.{Reply}
use Rattle.message_layer.specs.declared.state.Reply.TheVariants as reply

-- the datagrams that are no CON: the ACKs and RSTs
abbrev pub answers : List (List ℕ) → List (List ℕ)
answers sent = filter (λ d. not (is_con d)) sent

abbrev pub reset : Option ℕ → List (List ℕ)
reset None = []
reset (Some mid) = replies mid reply.Rst

-- What answers a CON or NON the first time: a response that is awaited is told, and acknowledged or
-- rejected; an empty NON has no answer; everything else is reset.
abbrev pub accepts : Bool → Reply
accepts confirms = if confirms then reply.Ack else reply.Nothing

pub record IsTold (older : List Step) (confirms : Bool) (m : Content) (told : Told) (r : Reply)
    : Type 0 where
  pub code : 31 < m.code
  pub awaited : awaits m.token older ≡ true
  pub says : told ≡ response m
  pub reply : r ≡ (if is_rejected m then reply.Rst else accepts confirms)

pub record IsUnmatched (older : List Step) (m : Content) (told : Told) (r : Reply) : Type 0 where
  pub code : 0 < m.code
  pub unmatched : (m.code ≤ 31) ⊎ (awaits m.token older ≡ false)
  pub says : told ≡ no_news
  pub reply : r ≡ reply.Rst

pub record IsEmpty (confirms : Bool) (m : Content) (told : Told) (r : Reply) : Type 0 where
  pub code : m.code ≡ 0
  pub says : told ≡ no_news
  pub reply : r ≡ (if confirms then reply.Rst else reply.Nothing)

-- a CON or NON that was not heard before is remembered with its answer
pub record IsTaken (t : ℕ) (older : List Step) (confirms : Bool) (m : Content) (told : Told)
    (sent : List (List ℕ)) (before after : List Heard) : Type 0 where
  pub reply : Reply
  pub room : count_by (is_fresh t) before < MAX_REMEMBERED
  pub fits : IsTold older confirms m told reply
      ⊎ (IsUnmatched older m told reply ⊎ IsEmpty confirms m told reply)
  pub answer : answers sent ≡ replies m.mid reply
  pub memory : after ≡ before ++ record { mid = m.mid; moment = t; reply = reply } ∷ []

-- one more than 1,024 counts as lost
pub record IsLost (t : ℕ) (told : Told) (sent : List (List ℕ)) (before after : List Heard)
    : Type 0 where
  pub full : MAX_REMEMBERED ≤ count_by (is_fresh t) before
  pub says : told ≡ was_dropped
  pub answer : answers sent ≡ []
  pub memory : after ≡ before

-- a repeat is not processed, and a CON gets the answer of the first one
pub record IsRepeated (confirms : Bool) (m : Content) (h : Heard) (told : Told)
    (sent : List (List ℕ)) (before after : List Heard) : Type 0 where
  pub says : told ≡ no_news
  pub answer : answers sent ≡ replies m.mid (if confirms then h.reply else reply.Nothing)
  pub memory : after ≡ before

abbrev pub IsOwn : ℕ → List Step → Bool → Content → Option Heard → Told → List (List ℕ) → List Heard
    → List Heard → Type 0
IsOwn t older confirms m (Some h) told sent before after =
    IsRepeated confirms m h told sent before after
IsOwn t older confirms m None told sent before after =
    IsTaken t older confirms m told sent before after ⊎ IsLost t told sent before after

-- what is no CON or NON gets this answer, and is not remembered
pub record IsNotRemembered (reply : List (List ℕ)) (sent : List (List ℕ))
    (before after : List Heard) : Type 0 where
  pub answer : answers sent ≡ reply
  pub memory : after ≡ before

-- what an ACK tells: the response that it brings, where its ID and its token await one
abbrev pub told_by_ack : List Step → Content → Told
told_by_ack older m =
    if nat_lt 31 m.code && awaits_ack m.mid m.token older then response m else no_news

-- what an RST tells: which outstanding message it rejects, by its ID
abbrev pub told_by_rst : Option (List ℕ) → Content → Told
told_by_rst None m = no_news
told_by_rst (Some d) m =
    if (m.code == 0) && (mid_of d == m.mid) then was_reset (token_of d) else no_news

abbrev pub IsMessage : ℕ → List Step → MsgType → Content → Told → List (List ℕ) → List Heard
    → List Heard → Type 0
IsMessage t older Con m told sent before after =
    IsOwn t older true m (find (is_repeat t m.mid) before) told sent before after
IsMessage t older Non m told sent before after =
    IsOwn t older false m (find (is_repeat t m.mid) before) told sent before after
IsMessage t older Ack m told sent before after = (told ≡ told_by_ack older m)
    × IsNotRemembered [] sent before after
IsMessage t older Rst m told sent before after = (told ≡ told_by_rst (outstanding_of older) m)
    × IsNotRemembered [] sent before after

abbrev pub IsRead : ℕ → List Step → List ℕ → Result Content CodecFault → Told → List (List ℕ)
    → List Heard → List Heard → Type 0
IsRead t older d (Ok m) told sent before after = IsMessage t older m.kind m told sent before after
IsRead t older d (Err e) told sent before after = (told ≡ no_news)
    × IsNotRemembered (reset (reset_for d)) sent before after

-- a datagram that is too long, or that comes before anything was sent
pub record IsIgnored (d : List ℕ) (older : List Step) (told : Told) (sent : List (List ℕ))
    (before after : List Heard) : Type 0 where
  pub why : (MAX_DATAGRAM_LEN < length d) ⊎ (transmissions older ≡ [])
  pub says : told ≡ was_dropped
  pub answer : answers sent ≡ []
  pub memory : after ≡ before

-- any other is read
pub record IsProcessed (t : ℕ) (d : List ℕ) (older : List Step) (told : Told) (sent : List (List ℕ))
    (before after : List Heard) : Type 0 where
  pub short : length d ≤ MAX_DATAGRAM_LEN
  pub begun : transmissions older ≢ []
  pub read : IsRead t older d (message_at d) told sent before after

abbrev pub IsAnswered : Step → List Step → Call → List Heard → List Heard → Type 0
IsAnswered x older (hear d told) before after = IsIgnored d older told x.sent before after
    ⊎ IsProcessed x.moment d older told x.sent before after
IsAnswered x older (submit m word) before after = IsNotRemembered [] x.sent before after
IsAnswered x older (tick told) before after = IsNotRemembered [] x.sent before after
IsAnswered x older (forget token) before after = IsNotRemembered [] x.sent before after
IsAnswered x older (expect token on) before after = IsNotRemembered [] x.sent before after
IsAnswered x older (take_send d) before after = IsNotRemembered [] x.sent before after
IsAnswered x older refuse before after = IsNotRemembered [] x.sent before after

-- The CONs and NONs that a run took, the oldest first, each with its answer. How a datagram is
-- answered rests on what was taken before it alone.
abbrev pub HasTaken : List Step → List Heard → Type 0
HasTaken [] taken = taken ≡ []
HasTaken (x ∷ older) taken = (before : List Heard) × HasTaken older before
    × IsAnswered x older x.call before taken

-- what the link has as outstanding is this datagram
abbrev pub IsOutstanding : Option Outstanding → Option (List ℕ) → Type 0
IsOutstanding None None = Unit {0}
IsOutstanding None (Some d) = ⊥
IsOutstanding (Some o) None = ⊥
IsOutstanding (Some o) (Some d) = (o.datagram ≡ d) × (o.mid ≡ mid_of d) × (o.token ≡ token_of d)

-- How each datagram of a run is answered and told rests on the run alone, and what the link has as
-- awaited and as outstanding is what the run says.
pub record Answers (run : List Step) (s : LinkState) : Type 0 where
  pub taken : List Heard
  pub all : HasTaken run taken
  pub awaited : (token : List ℕ) → list_any (is_awaited token) s.awaited ≡ awaits token run
  pub by_ack : (mid : ℕ) (token : List ℕ)
      → list_any (is_awaited_by_ack mid token) s.awaited ≡ awaits_ack mid token run
  pub outstanding : IsOutstanding s.outstanding (outstanding_of run)

abbrev pub RunAnswers : Type 0
RunAnswers = (run : List Step) (s : LinkState) → IsRun run s → Answers run s

-- the step hears this CON or NON, and tells this
pub record HearsOwn (x : Step) (m : Content) (told : Told) : Type 0 where
  pub datagram : List ℕ
  pub call : x.call ≡ hear datagram told
  pub read : message_at datagram ≡ Ok m
  pub own : (m.kind ≡ Con) ⊎ (m.kind ≡ Non)

-- Once a response in a CON or NON was handed up, none with its message ID is for 247 s.
abbrev pub HandsUpOnce : Type 0
HandsUpOnce =
    (later : Step) (between : List Step) (first : Step) (older : List Step) (s : LinkState)
    → IsRun (later ∷ between ++ first ∷ older) s
    → (m n : Content) → HearsOwn first m (response m) → HearsOwn later n (response n)
    → n.mid ≡ m.mid → first.moment + EXCHANGE_LIFETIME ≤ later.moment
