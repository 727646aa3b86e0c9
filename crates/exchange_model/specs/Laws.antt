-- Where its premise holds, an entry may follow, and the state after it says what the longer history
-- says.
use Rattle.std.specs.List.{AllByRecursion}
use Rattle.std.specs.Prelude.{◌≡◌, ℕ, ◌<◌, ◌≤◌, true, false, List, ◌∷◌, length, Option, Some, None}
use Rattle.limits.specs.declared.TheConstants.{MAX_BODY_LEN, MAX_DATAGRAM_LEN, MAX_MESSAGE_IDS, MAX_RETRANSMIT}
use Rattle.coap_codec.specs.Spelling.{Content, Spells}
use Rattle.uri_map.specs.declared.peer.Peer.{Peer}
use Rattle.message_layer.specs.Sending.{due_of, first_sent}
use Rattle.message_layer.specs.Hearing.{verdict_of, reset_for}
use Rattle.message_layer.specs.declared.state.Waiting.{Waiting}
use Rattle.message_layer.specs.declared.state.Outstanding.{Outstanding}
use Rattle.message_layer.specs.declared.verdict.Verdict.{Verdict}
use Rattle.resp_cache.specs.Stored.{Stored}
use Rattle.ask_model.specs.Requests.{CoapRequest, Requests, Plainly, opening_message}
use Rattle.ask_model.specs.Views.{Ask}
use Rattle.ask_model.specs.Sharing.{asked_key}
use Rattle.journal_book.specs.Entries.{Grounds, Opens, Asks, Sends, Hears, Passes, Answers, Shuts, Seals}
use Rattle.history_laws.specs.Confirmations.{Confirmation}
use Rattle.history_laws.specs.Numbering.{token_number}
use Rattle.history_laws.specs.Readings.{Noted, Plain, Joins, Serves, Confirms, Repeats, Garbled, ticked, noted}
use Rattle.history_laws.specs.Connections.{is_open, asks_of, answers_of}
use Rattle.history_laws.specs.Transmissions.{mids_used}
use Rattle.history_laws.specs.Hearing.{knows, repeated, can_be_remembered, has_room}
use Rattle.history_laws.specs.Confirming.{owed}
use Rattle.history_laws.specs.Sealing.{MaySeal}
use Rattle.history_laws.specs.Justified.{HasGrounds, AskNote, pending, MayConfirm, MayCome, Follows, UnservedNote}
use Rattle.history_laws.specs.Storing.{MissesAlone}
use Rattle.history_laws.specs.Joining as H
use Rattle.history_links.specs.Agrees.{due}
use Rattle.history_links.specs.Steps.{MaySend, copy, first, heard, reset}
use Rattle.exchange_model.specs.State.{State, link_of}
use Rattle.exchange_model.specs.Reads.{Reads}
use Rattle.exchange_model.specs.Calls.{goes_with, served_in}
use Rattle.exchange_model.specs.Steps.{opens, asks, answers, shuts, seals, asks_so, begins, kept_for, opening_note, recalls, joins, confirms, hears_nothing, sends_first, sends_copy}
use Rattle.exchange_model.specs.Matters.{asked_in, matter_of}
use Rattle.exchange_model.specs.Hearing.{Numbers, hears, passes}
use Rattle.exchange_model.specs.declared.kept.Exchange.{Exchange}
use Rattle.history_laws.specs.Progress.{Progress, next_message}

-- an open connection that waits for no answer
pub record MayAsk (l : List Noted) (c : ℕ) : Type 0 where
  pub open_now : is_open l c ≡ true
  pub idle : length (asks_of l c) ≡ length (answers_of l c)

-- before an entry at this moment
pub record Before (l : List Noted) (t : ℕ) (S : State) : Type 0 where
  pub reads : Reads l S
  pub later : S.moment ≤ t

-- the entry may follow, and this is the state after it
pub record Leads (l : List Noted) (x : Noted) (S : State) : Type 0 where
  pub follows : Follows l x.written.moment x.written.deed x.note
  pub reads : Reads (x ∷ l) S

abbrev pub OpensLeads : Type 0
OpensLeads =
    (l : List Noted) (t : ℕ) (S : State) → Before l t S → MayCome l
    → Leads l (noted t (Opens S.opened) Plain) (opens t S)

-- A connection is shut at any time, but before an ACK or RST that is owed.
abbrev pub ShutsLeads : Type 0
ShutsLeads =
    (l : List Noted) (t c : ℕ) (S : State) → Before l t S → owed l ≡ None → is_open l c ≡ true
    → Leads l (noted t (Shuts c) Plain) (shuts t c S)

abbrev pub SealsLeads : Type 0
SealsLeads =
    (l : List Noted) (t : ℕ) (S : State) → Before l t S → MayCome l → MaySeal l
    → Leads l (noted t Seals Plain) (seals t S)

abbrev pub AnswersLeads : Type 0
AnswersLeads =
    (l : List Noted) (t c k : ℕ) (g : Grounds) (S : State)
    → Before l t S → owed l ≡ None → is_open l c ≡ true → pending l c ≡ Some k → HasGrounds l t k g
    → Leads l (noted t (Answers c k g) Plain) (answers t c k g S)

-- An ask that is refused, or for which there is no room, opens nothing.
abbrev pub AsksLeads : Type 0
AsksLeads =
    (l : List Noted) (t c : ℕ) (a : Ask) (S : State)
    → Before l t S → MayCome l → MayAsk l c → AskNote l t a.sense Plain
    → UnservedNote l t a.sense Plain
    → Leads l (noted t (Asks c a) Plain) (asks t c a S)

-- A GET is served what is stored, while that is fresh.
abbrev pub RecallsLeads : Type 0
RecallsLeads =
    (l : List Noted) (t c : ℕ) (a : Ask) (q : CoapRequest) (s : Stored) (S : State)
    → Before l t S → MayCome l → MayAsk l c → a.sense ≡ Requests q → served_in q t S ≡ Some s
    → Leads l (noted t (Asks c a) (Serves s.list)) (recalls t c a (asked_key q) S)

-- Where it can be served no more, it joins the exchange of an equal one that is open.
abbrev pub JoinsLeads : Type 0
JoinsLeads =
    (l : List Noted) (t c : ℕ) (a : Ask) (q : CoapRequest) (o : ℕ) (S : State)
    → Before l t S → MayCome l → MayAsk l c → a.sense ≡ Requests q → MissesAlone l t q
    → H.joins l q ≡ Some o
    → Leads l (noted t (Asks c a) (Joins o)) (joins t c a o S)

-- Any other opens an exchange, and its message waits last. It asks about what is stored for it and
-- isn't fresh.
abbrev pub BeginsLeads : Type 0
BeginsLeads =
    (l : List Noted) (t c : ℕ) (a : Ask) (q : CoapRequest) (token text : List ℕ) (word : ℕ)
    (S : State)
    → Before l t S → MayCome l → MayAsk l c
    → a.sense ≡ Requests q → MissesAlone l t q → H.joins l q ≡ None → has_room l t q ≡ true
    → length q.body ≤ MAX_BODY_LEN
    → Spells (opening_message (asks_so t a q S) q 0 token) text
    → length token ≡ 8 → token_number token ≡ S.issued
    → Leads l (noted t (Asks c a) (opening_note q (kept_for t a q S)))
    (begins t c a q token text word S)

-- The message that waits first at an endpoint goes out where nothing is outstanding there.
abbrev pub FirstLeads : Type 0
FirstLeads =
    (l : List Noted) (t : ℕ) (p : Peer) (w : Waiting) (ws : List Waiting) (S : State)
    → Before l t S → MaySend l → w.first_mid < 65536 → mids_used l t p < MAX_MESSAGE_IDS
    → (link_of S.links p).outstanding ≡ None → (link_of S.links p).waiting ≡ w ∷ ws
    → (o : ℕ) × (m : Content)
    × Leads l (first t p (first_sent t (link_of S.links p).last_mid w) o m) (sends_first t p w ws S)

-- A copy goes out once it is due.
abbrev pub CopyLeads : Type 0
CopyLeads =
    (l : List Noted) (t : ℕ) (p : Peer) (o : Outstanding) (S : State)
    → Before l t S → MaySend l → (link_of S.links p).outstanding ≡ Some o
    → o.retransmissions < MAX_RETRANSMIT → due_of o ≤ ticked l
    → (i : ℕ) × Leads l (copy t p o i) (sends_copy t p o S)

-- The ACK or RST that is owed is given.
abbrev pub ConfirmsLeads : Type 0
ConfirmsLeads =
    (l : List Noted) (t : ℕ) (p : Peer) (bytes : List ℕ) (S : State)
    → Before l t S → S.sealed ≡ false → MayConfirm l p bytes
    → Leads l (noted t (Sends p bytes None) Confirms) (confirms t p bytes S)

-- What is heard asks for just what the link answers.
pub record Heeds (l : List Noted) (x : Noted) (c : Option Confirmation) (S : State) : Type 0 where
  pub leads : Leads l x S
  pub owes : owed (x ∷ l) ≡ c

-- a datagram from an endpoint that something was sent to
pub record MayHear (l : List Noted) (t : ℕ) (p : Peer) (d : List ℕ) (S : State) : Type 0 where
  pub before : Before l t S
  pub come : MayCome l
  pub short : length d ≤ MAX_DATAGRAM_LEN
  pub known : knows l p ≡ true

abbrev pub verdict_on : ℕ → Peer → Content → State → Verdict
verdict_on t p m S = verdict_of t (link_of S.links p) m

abbrev pub RepeatsLeads : Type 0
RepeatsLeads =
    (l : List Noted) (t : ℕ) (p : Peer) (d : List ℕ) (m : Content) (j : ℕ) (S : State)
    → MayHear l t p d S → Spells m d → repeated l t p m ≡ Some j
    → Heeds l (noted t (Hears p d) (Repeats m j)) (due p m.mid (verdict_on t p m S).reply)
    (hears_nothing t p d S)

abbrev pub GarbledLeads : Type 0
GarbledLeads =
    (l : List Noted) (t : ℕ) (p : Peer) (d : List ℕ) (S : State)
    → MayHear l t p d S → AllByRecursion (λ (b : ℕ). b < 256) d
    → ((m : Content) → Spells m d → ⊥)
    → Heeds l (noted t (Hears p d) Garbled) (reset p (reset_for d)) (hears_nothing t p d S)

-- Where an exchange goes on by it, or begins, its next message is spelled under the next token.
pub record IsContinued (e : Exchange) (progress : Progress) (n : Numbers) (S : State) : Type 0 where
  pub request : CoapRequest
  pub asked : asked_in S.entries e.ask ≡ Some request
  pub message : Content
  pub next : next_message Plainly request progress 0 n.token ≡ Some message
  pub spelled : Spells message n.text
  pub token_size : length n.token ≡ 8
  pub number : token_number n.token ≡ S.issued

abbrev pub HearsLeads : Type 0
HearsLeads =
    (l : List Noted) (t : ℕ) (p : Peer) (d : List ℕ) (m : Content) (n : Numbers) (S : State)
    → MayHear l t p d S → Spells m d → repeated l t p m ≡ None → can_be_remembered l t p m ≡ true
    → ((e : Exchange) (progress : Progress)
    → goes_with (matter_of t p m (verdict_on t p m S) S) ≡ Some (e, progress)
    → IsContinued e progress n S)
    → Heeds l (heard l t p d m) (due p m.mid (verdict_on t p m S).reply) (hears t p d m n S)

-- A tick ends what took too long.
abbrev pub PassesLeads : Type 0
PassesLeads =
    (l : List Noted) (t : ℕ) (S : State) → Before l t S → MayCome l
    → Leads l (noted t Passes Plain) (passes t S)
