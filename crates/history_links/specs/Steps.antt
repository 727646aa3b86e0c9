-- What the calls of a link leave in a history.
use Rattle.std.specs.Prelude.{◌≡◌, ℕ, ◌+◌, ◌<◌, ◌≤◌, Bool, true, false, not, ◌&&◌, ◌==◌, nat_le, List, [], ◌∷◌, length, filter, Option, Some, None, if◌then◌else◌, ⊤}
use Rattle.std.specs.List.{list_any}
use Rattle.limits.specs.declared.TheConstants.{MAX_MESSAGE_IDS, MAX_RETRANSMIT}
use Rattle.coap_codec.specs.Spelling.{Content, Spells}
use Rattle.uri_map.specs.declared.peer.Peer.{Peer}
use Rattle.uri_map.specs.Peers.{same_peer}
use Rattle.ask_model.specs.Requests.{CoapRequest, Manner, opening_message}
use Rattle.ask_model.specs.Sharing.{is_get}
use Rattle.ask_model.specs.Views.{Ask}
use Rattle.journal_book.specs.Entries.{Deed, Opens, Asks, Sends, Hears, Passes, Answers, Shuts, Seals}
use Rattle.history_laws.specs.Confirmations.{Confirmation}
use Rattle.history_laws.specs.Numbering.{token_number}
use Rattle.message_layer.specs.Values.{LinkState}
use Rattle.message_layer.specs.Sending.{due_of, with_copy, first_sent, with_outstanding, waits, queued}
use Rattle.message_layer.specs.Hearing.{answered_in, remembered_in, verdict_of, reset_for}
use Rattle.message_layer.specs.declared.state.Awaited.{Awaited}
use Rattle.message_layer.specs.declared.state.Outstanding.{Outstanding}
use Rattle.message_layer.specs.declared.state.Reply.TheVariants as R
use Rattle.message_layer.specs.declared.state.Waiting.{Waiting}
use Rattle.message_layer.specs.declared.verdict.News.{News}
use Rattle.message_layer.specs.declared.verdict.News.TheVariants.{Quiet, Response, Reset, Lost}
use Rattle.message_layer.specs.declared.verdict.Verdict.{Verdict}
use Rattle.history_laws.specs.Readings.{Noted, Note, Plain, Begins, Renews, Joins, Serves, First, Copies, Confirms, Says, Repeats, Garbled, Notice, newest, ticked, noted}
use Rattle.history_laws.specs.Connections.{is_sealed}
use Rattle.history_laws.specs.Transmissions.{FirstSending, first_at, bears_token, mids_used}
use Rattle.history_laws.specs.Progress.{progress, next_message}
use Rattle.history_laws.specs.Exchanges.{begun, kept_by, started_by, openings, heard_for, issued, is_issued_at, is_late, expires, waits_for, is_waiting, waiting}
use Rattle.history_laws.specs.Observing.{manner, manner_by, tag_of, wants_by}
use Rattle.history_laws.specs.Hearing.{went_under, repeated, can_be_remembered, answers, notice_of}
use Rattle.history_laws.specs.Confirming.{owed}
use Rattle.history_laws.specs.Justified.{Legal, Follows}
use Rattle.history_links.specs.Agrees.{Start, IsWaitingFor, due, Agrees, awaits, notified, expects}

-- Before an entry at this moment, the history is legal, and the link agrees with it.
pub record Before (start : Start) (l : List Noted) (t : ℕ) (p : Peer) (s : LinkState) : Type 0 where
  pub legal : Legal l
  pub started : start.moment ≤ t
  pub later : newest l ≤ t
  pub agrees : Agrees start l p s

-- A message may be sent: the journal isn't sealed, and nobody is owed an ACK or RST.
pub record MaySend (l : List Noted) : Type 0 where
  pub unsealed : is_sealed l ≡ false
  pub quiet : owed l ≡ None

-- an entry that may follow, after which the link is this and agrees
pub record Leads (start : Start) (l : List Noted) (p : Peer) (x : Noted)
    (s : LinkState) : Type 0 where
  pub follows : Follows l x.written.moment x.written.deed x.note
  pub agrees : Agrees start (x ∷ l) p s

-- Entries that are nothing to any link: of connections, an ask that joins an exchange, an ACK or
-- RST, and what is heard and is nothing new.
abbrev pub IsSilent : Deed → Note → Type 0
IsSilent (Opens c) Plain = ⊤
IsSilent (Asks c a) Plain = ⊤
IsSilent (Asks c a) (Joins o) = ⊤
IsSilent (Asks c a) (Serves js) = ⊤
IsSilent (Answers c k g) Plain = ⊤
IsSilent (Shuts c) Plain = ⊤
IsSilent Seals Plain = ⊤
IsSilent (Sends p b w) Confirms = ⊤
IsSilent (Hears p b) (Repeats m j) = ⊤
IsSilent (Hears p b) Garbled = ⊤
IsSilent _ _ = ⊥

abbrev pub SilentAgrees : Type 0
SilentAgrees =
    (start : Start) (l : List Noted) (t : ℕ) (p : Peer) (s : LinkState) (d : Deed) (note : Note)
    → Before start l t p s → IsSilent d note → Agrees start (noted t d note ∷ l) p s

-- A copy is sent once it is due.
abbrev pub copy : ℕ → Peer → Outstanding → ℕ → Noted
copy t p o sending = noted t (Sends p o.datagram None) (Copies sending)

abbrev pub CopyFollows : Type 0
CopyFollows =
    (start : Start) (l : List Noted) (t : ℕ) (p : Peer) (s : LinkState) (o : Outstanding)
    → Before start l t p s → MaySend l
    → s.outstanding ≡ Some o → o.retransmissions < MAX_RETRANSMIT → due_of o ≤ ticked l
    → (i : ℕ) × (f : FirstSending) × (first_at l i ≡ Some f) × (same_peer f.peer p ≡ true)
    × Leads start l p (copy t p o i) (with_copy t s o)

-- The message that waits first is sent where nothing is outstanding.
abbrev pub first : ℕ → Peer → Outstanding → ℕ → Content → Noted
first t p o opening m = noted t (Sends p o.datagram (Some o.timeout)) (First opening m)

abbrev pub NextFollows : Type 0
NextFollows =
    (start : Start) (l : List Noted) (t : ℕ) (p : Peer) (s : LinkState) (w : Waiting)
    (ws : List Waiting)
    → Before start l t p s → MaySend l
    → w.first_mid < 65536 → mids_used l t p < MAX_MESSAGE_IDS
    → s.outstanding ≡ None → s.waiting ≡ w ∷ ws
    → (o : ℕ) × (m : Content) × (is_waiting l p o ≡ true) × IsWaitingFor start l o w
    × (m.token ≡ w.token)
    × Leads start l p (first t p (first_sent t s.last_mid w) o m)
    (with_outstanding s ws (first_sent t s.last_mid w))

-- Under these tokens nothing is expected any more.
abbrev pub but_gone : (List ℕ → Bool) → List Awaited → List Awaited
but_gone gone awaited = filter (λ (a : Awaited). not (gone a.token)) awaited

abbrev pub lets_go : (List ℕ → Bool) → LinkState → LinkState
lets_go gone s = record s { awaited = but_gone gone s.awaited }

-- So it is after the entry.
abbrev pub Forgets : List Noted → Noted → Peer → (List ℕ → Bool) → Type 0
Forgets l x p gone = (token : List ℕ)
    → expects (x ∷ l) p token ≡ (not (gone token) && expects l p token)

-- To the peer the same notifications come after it.
abbrev pub IsUnnoticed : List Noted → Noted → Peer → Type 0
IsUnnoticed l x p = (token : List ℕ) → notified (x ∷ l) p token ≡ notified l p token

-- By it an ask opens an exchange for the request. Of a GET alone something may be kept.
abbrev pub IsOpening : CoapRequest → Note → Type 0
IsOpening q (Begins r) = r ≡ q
IsOpening q (Renews r s) = (r ≡ q) × (is_get q ≡ true)
IsOpening q _ = ⊥

-- how the first message of that asks
abbrev pub first_manner : List Noted → Deed → Note → Manner
first_manner l d note = manner_by (tag_of (kept_by note) []) (wants_by l d note)

-- Its message waits last where an ask opens an exchange with the peer. By that a watch for the same
-- may end.
abbrev pub QueuedAgrees : Type 0
QueuedAgrees =
    (start : Start) (l : List Noted) (t : ℕ) (p : Peer) (s : LinkState)
    (c : ℕ) (a : Ask) (q : CoapRequest) (note : Note) (token text : List ℕ) (word : ℕ)
    (gone : List ℕ → Bool)
    → Before start l t p s → q.peer ≡ p → IsOpening q note
    → Spells (opening_message (first_manner l (Asks c a) note) q 0 token) text
    → length token ≡ 8 → bears_token l token ≡ false → token_number token ≡ start.issued + issued l
    → Forgets l (noted t (Asks c a) note) p gone
    → Agrees start (noted t (Asks c a) note ∷ l) p
    (queued t (waits token text word) (lets_go gone s))

-- What is heard asks for just what the link answers (RFC 7252 sections 4.2, 4.3, 4.5), which is
-- this after it.
pub record Heeds
    (start : Start) (l : List Noted) (p : Peer) (x : Noted) (c : Option Confirmation)
    (s : LinkState)
    : Type 0 where
  pub owes : owed (x ∷ l) ≡ c
  pub agrees : Agrees start (x ∷ l) p s

-- A datagram that repeats one changes nothing.
abbrev pub RepeatAgrees : Type 0
RepeatAgrees =
    (start : Start) (l : List Noted) (t : ℕ) (p : Peer) (s : LinkState) (d : List ℕ) (m : Content)
    (j : ℕ)
    → Before start l t p s → repeated l t p m ≡ Some j
    → Heeds start l p (noted t (Hears p d) (Repeats m j)) (due p m.mid (verdict_of t s m).reply) s

-- One that is no message changes nothing, and is reset where it begins as a CON does.
abbrev pub reset : Peer → Option ℕ → Option Confirmation
reset p None = None
reset p (Some mid) = due p mid R.Rst

abbrev pub GarbledAgrees : Type 0
GarbledAgrees =
    (start : Start) (l : List Noted) (t : ℕ) (p : Peer) (s : LinkState) (d : List ℕ)
    → Before start l t p s
    → Heeds start l p (noted t (Hears p d) Garbled) (reset p (reset_for d)) s

-- The token under which no reply is awaited any more: that of a response that is told, or of a
-- message that is reset.
abbrev pub ended_token : News → List ℕ → Option (List ℕ)
ended_token Quiet token = None
ended_token Response token = Some token
ended_token (Reset of) token = Some of
ended_token Lost token = None

-- What a link keeps after a message that it hears, before the next of its own has its turn: under
-- these tokens nothing is expected any more.
abbrev pub heard_link : ℕ → ℕ → List ℕ → (List ℕ → Bool) → Verdict → LinkState → LinkState
heard_link t mid token gone v s = record {
  waiting = s.waiting;
  outstanding = if v.ends then None else s.outstanding;
  last_mid = s.last_mid;
  given = s.given;
  awaited = but_gone gone (answered_in token v.news s.awaited);
  heard = remembered_in t mid v.reply v.remembered s.heard;
  out = s.out;
}

-- A message that is new is a reply to what it answers.
abbrev pub heard : List Noted → ℕ → Peer → List ℕ → Content → Noted
heard l t p d m = noted t (Hears p d) (Says m (answers l p m) (notice_of l t p m (answers l p m)))

-- By it no exchange goes on, and none begins: what it is a reply to has ended, if it is one.
abbrev pub NoneGoesOn : List Noted → Noted → Type 0
NoneGoesOn l x = list_any (is_issued_at (x ∷ l) (length l)) (openings (x ∷ l)) ≡ false

-- That of a message that is reset is one of these, where a reply to it was awaited.
abbrev pub EndsReset : List Noted → Peer → News → (List ℕ → Bool) → Type 0
EndsReset l p news gone = (of : List ℕ) → news ≡ Reset of → awaits l p of ≡ true → gone of ≡ true

abbrev pub SaysAgrees : Type 0
SaysAgrees =
    (start : Start) (l : List Noted) (t : ℕ) (p : Peer) (s : LinkState) (d : List ℕ) (m : Content)
    (gone : List ℕ → Bool)
    → Before start l t p s → repeated l t p m ≡ None → can_be_remembered l t p m ≡ true
    → Forgets l (heard l t p d m) p gone → EndsReset l p (verdict_of t s m).news gone
    → NoneGoesOn l (heard l t p d m)
    → Heeds start l p (heard l t p d m) (due p m.mid (verdict_of t s m).reply)
    (heard_link t m.mid m.token gone (verdict_of t s m) s)

-- By it this exchange goes on, or begins: its next message, under a token of its own, waits last.
pub record GoesOn (start : Start) (l : List Noted) (x : Noted) (o : ℕ)
    (token text : List ℕ) : Type 0 where
  pub is : is_issued_at (x ∷ l) (length l) o ≡ true
  pub since : ℕ
  pub request : CoapRequest
  pub opening : begun (x ∷ l) o ≡ Some (record { since = since; request = request })
  pub message : Content
  pub next : next_message (manner (x ∷ l) o) request
      (progress request (heard_for (x ∷ l) o)) 0 token
      ≡ Some message
  pub spelled : Spells message text
  pub token_size : length token ≡ 8
  pub token_apart : bears_token l token ≡ false
  pub numbered : token_number token ≡ start.issued + issued l

abbrev pub GoesOnAgrees : Type 0
GoesOnAgrees =
    (start : Start) (l : List Noted) (t : ℕ) (p : Peer) (s : LinkState) (d : List ℕ) (m : Content)
    (o : ℕ) (token text : List ℕ) (word : ℕ) (gone : List ℕ → Bool)
    → Before start l t p s → repeated l t p m ≡ None → can_be_remembered l t p m ≡ true
    → Forgets l (heard l t p d m) p gone → EndsReset l p (verdict_of t s m).news gone
    → GoesOn start l (heard l t p d m) o token text
    → Heeds start l p (heard l t p d m) (due p m.mid (verdict_of t s m).reply)
    (queued t (waits token text word) (heard_link t m.mid m.token gone (verdict_of t s m) s))

-- A tick gives up what was sent five times, and ends exchanges and watches: what bears a token of
-- these is neither expected nor sent any more (RFC 7252 sections 4.2, 4.8.2).
abbrev pub is_over : ℕ → Option Outstanding → Bool
is_over t None = false
is_over t (Some o) = (o.retransmissions == MAX_RETRANSMIT) && nat_le (due_of o) t

abbrev pub passed_link : ℕ → (List ℕ → Bool) → LinkState → LinkState
passed_link t gone s = record {
  waiting = filter (λ (w : Waiting). not (gone w.token)) s.waiting;
  outstanding = if is_over t s.outstanding then None else s.outstanding;
  last_mid = s.last_mid;
  given = s.given;
  awaited = but_gone gone s.awaited;
  heard = s.heard;
  out = s.out;
}

-- These are the tokens of the exchanges with the peer, and of the watches, that end at this moment.
abbrev pub EndWaiting : List Noted → ℕ → (List ℕ → Bool) → List ℕ → List Waiting → Type 0
EndWaiting l t gone (o ∷ os) (w ∷ ws) = (is_late t (begun l o) ≡ gone w.token)
    × EndWaiting l t gone os ws
EndWaiting l t gone _ _ = ⊤

pub record EndTokens (l : List Noted) (t : ℕ) (p : Peer) (s : LinkState)
    (gone : List ℕ → Bool) : Type 0 where
  pub awaited : (o i : ℕ) (token : List ℕ) → waits_for l o ≡ Some i
      → went_under p token (first_at l i) ≡ true → expires l o t (Some i) ≡ gone token
  pub waiting : EndWaiting l t gone (waiting l p) s.waiting
  pub watched : (token : List ℕ)
      → notified (noted t Passes Plain ∷ l) p token ≡ (not (gone token) && notified l p token)

abbrev pub PassAgrees : Type 0
PassAgrees =
    (start : Start) (l : List Noted) (t : ℕ) (p : Peer) (s : LinkState) (gone : List ℕ → Bool)
    → Before start l t p s → EndTokens l t p s gone
    → Agrees start (noted t Passes Plain ∷ l) p (passed_link t gone s)

-- What concerns another peer leaves the link: an ask that opens an exchange with that one, a
-- message of its that waited, a copy of one, and what is heard from it, also where that opens an
-- exchange with it.
abbrev pub AskElsewhere : Type 0
AskElsewhere =
    (start : Start) (l : List Noted) (t : ℕ) (p : Peer) (s : LinkState) (c : ℕ) (a : Ask)
    (q : CoapRequest) (note : Note)
    → Before start l t p s → same_peer q.peer p ≡ false → IsOpening q note
    → IsUnnoticed l (noted t (Asks c a) note) p
    → Agrees start (noted t (Asks c a) note ∷ l) p s

abbrev pub FirstElsewhere : Type 0
FirstElsewhere =
    (start : Start) (l : List Noted) (t : ℕ) (p r : Peer) (s : LinkState)
    (bytes : List ℕ) (timeout : Option ℕ) (o : ℕ) (m : Content) (w : Waiting)
    → Before start l t p s → same_peer r p ≡ false
    → is_waiting l r o ≡ true → IsWaitingFor start l o w → m.token ≡ w.token
    → Agrees start (noted t (Sends r bytes timeout) (First o m) ∷ l) p s

abbrev pub CopyElsewhere : Type 0
CopyElsewhere =
    (start : Start) (l : List Noted) (t : ℕ) (p r : Peer) (s : LinkState) (bytes : List ℕ) (i : ℕ)
    (f : FirstSending)
    → Before start l t p s → first_at l i ≡ Some f → same_peer f.peer p ≡ false
    → Agrees start (noted t (Sends r bytes None) (Copies i) ∷ l) p s

abbrev pub SaysElsewhere : Type 0
SaysElsewhere =
    (start : Start) (l : List Noted) (t : ℕ) (p r : Peer) (s : LinkState) (d : List ℕ)
    (m : Content) (to : Option ℕ)
    (notice : Notice)
    → Before start l t p s → same_peer r p ≡ false
    → ((i : ℕ) (f : FirstSending) → to ≡ Some i → first_at l i ≡ Some f
    → same_peer f.peer p ≡ false)
    → ((q : CoapRequest) → started_by notice.observation ≡ Some q → same_peer q.peer p ≡ false)
    → IsUnnoticed l (noted t (Hears r d) (Says m to notice)) p
    → Agrees start (noted t (Hears r d) (Says m to notice) ∷ l) p s
