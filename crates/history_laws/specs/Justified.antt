-- When a history is justified: some reading of it is legal.
use Rattle.std.specs.Prelude.{◌≡◌, ◌⊎◌, ℕ, ◌+◌, ◌<◌, ◌≤◌, Bool, true, false, not, ◌||◌, List, [], ◌∷◌, length, slice_get, Option, Some, None, is_some, nat_lt, ⊤}
use Rattle.std.specs.Option.{option_map_or}
use Rattle.std.specs.List.{AllByRecursion, list_all, range_with_len}
use Rattle.limits.specs.declared.TheConstants.{ACK_TIMEOUT, LONGEST_ACK_TIMEOUT, MAX_DATAGRAM_LEN, MAX_RETRANSMIT}
use Rattle.coap_codec.specs.Spelling.{Content, Spells}
use Rattle.uri_map.specs.declared.peer.Peer.{Peer}
use Rattle.coap_codec.specs.declared.block.Block.{Block}
use Rattle.ask_model.specs.Requests.{CoapRequest, Sense, Requests, Refuses, Manner, asking}
use Rattle.ask_model.specs.Sharing.{asks_same, is_get}
use Rattle.ask_model.specs.Views.{Ask}
use Rattle.resp_cache.specs.Stored.{Stored, is_fresh}
use Rattle.ask_model.specs.declared.cause.Cause.{Cause}
use Rattle.ask_model.specs.declared.cause.Cause.TheVariants as C
use Rattle.journal_book.specs.Entries.{Grounds, Live, Kept, Fault, Mark, Ground, Past, Done, Asked, Sent, Heard, Deed, Opens, Asks, Sends, Hears, Passes, Answers, Shuts, Seals, Carries, Written}
use Rattle.history_laws.specs.Responses.{Response}
use Rattle.history_laws.specs.Confirmations.{empty, Confirmation}
use Rattle.history_laws.specs.Causes.{IsRefusal}
use Rattle.history_laws.specs.Readings.{Noted, Note, Plain, Begins, Renews, Joins, Serves, First, Copies, Confirms, Says, Repeats, Garbled, Bygone, Recalls, noted, are_copies, entries, at, newest, ticked}
use Rattle.history_laws.specs.Connections.{is_open, asks_of, answers_of, is_sealed, opened, has_opened}
use Rattle.history_laws.specs.Progress.{Reply, numbers, Ending, Whole, Renewed, NotUnderstood, Reset, TimedOut, Turned, progress, next_message}
use Rattle.history_laws.specs.Transmissions.{FirstSending, firsts, sent_last, bears_token, bears_mid, Transmission, transmission, due, outstanding}
use Rattle.history_laws.specs.Exchanges.{Begun, begun, is_late, waits_for, heard_for, end_of, is_going, open_exchanges, waiting}
use Rattle.history_laws.specs.Joining.{joins}
use Rattle.history_laws.specs.Observing.{Watch, idles, watches, manner, would_observe}
use Rattle.history_laws.specs.Carrying.{carried, replied_by}
use Rattle.history_laws.specs.Storing.{IsStored, MissesAlone, pieces_of, renewed_list}
use Rattle.history_laws.specs.Hearing.{IsReplyKind, is_such, knows, repeated, can_be_remembered, answers, notice_of, has_room}
use Rattle.history_laws.specs.Confirming.{owed}
use Rattle.history_laws.specs.Sealing.{MaySeal}

-- The ask with this number stands, by this connection.
pub record IsAsk (l : List Noted) (k c : ℕ) (a : Ask) : Type 0 where
  pub moment : ℕ
  pub note : Note
  pub stands : at l k
      ≡ Some (noted moment (Asks c a) note)

-- The exchange ended at this entry, in this way.
abbrev pub Ends : List Noted → ℕ → ℕ → Ending → Type 0
Ends l o e how = end_of l o ≡ Some (record { number = e; how = how })

-- which exchange an ask reads: the one that it opened, or that it joined
abbrev pub reads_by : ℕ → Note → Option ℕ
reads_by k (Begins q) = Some k
reads_by k (Renews q s) = Some k
reads_by k (Joins o) = Some o
reads_by k _ = None

abbrev pub reads_in : ℕ → Option Noted → Option ℕ
reads_in k None = None
reads_in k (Some x) = reads_by k x.note

abbrev pub reads : List Noted → ℕ → Option ℕ
reads l k = reads_in k (at l k)

-- The ask was turned away: it asks for something, and opened nothing, as there was no room.
pub record IsTurnedAway (l : List Noted) (k : ℕ) : Type 0 where
  pub moment : ℕ
  pub conn : ℕ
  pub ask : Ask
  pub request : CoapRequest
  pub stands : at l k
      ≡ Some (noted moment (Asks conn ask) Plain)
  pub sense : ask.sense ≡ Requests request

-- It asks for what is refused for this cause.
pub record IsRefused (l : List Noted) (k : ℕ) (cause : Cause) : Type 0 where
  pub conn : ℕ
  pub ask : Ask
  pub status : ℕ
  pub asked : IsAsk l k conn ask
  pub sense : ask.sense ≡ Refuses cause status

-- The exchange is past its end, which a sealed journal can't say.
abbrev pub IsOverdue : List Noted → ℕ → ℕ → Type 0
IsOverdue l t o = (is_sealed l ≡ true) × (end_of l o ≡ None) × (is_late t (begun l o) ≡ true)

-- Why an answer at this moment is the proxy's own, and which entry it names.
abbrev pub Caused : List Noted → ℕ → ℕ → Cause → ℕ → Type 0
-- There was no room for its exchange, or no place for the next message of that.
Caused l t k C.Busy n =
    (n ≡ k) × (IsTurnedAway l k ⊎ ((o : ℕ) × (e : ℕ) × (reads l k ≡ Some o) × Ends l o e Turned))
-- The exchange ended so, or is overdue: the latest first sending is named, or the ask where nothing
-- was sent.
Caused l t k C.Timeout n =
    (o : ℕ) × (reads l k ≡ Some o) × ((sent_last l o ≡ Some n) ⊎ ((sent_last l o ≡ None) × (n ≡ k)))
    × (((e : ℕ) × Ends l o e TimedOut) ⊎ IsOverdue l t o)
Caused l t k C.Reset n = (o : ℕ) × (reads l k ≡ Some o) × Ends l o n Reset
Caused l t k C.NotUnderstood n = (o : ℕ) × (reads l k ≡ Some o) × Ends l o n NotUnderstood
-- What the request means is that refusal.
Caused l t k cause n = IsRefusal cause × (n ≡ k) × IsRefused l k cause

-- what the answer, at this moment, to an ask rests on
abbrev pub HasGrounds : List Noted → ℕ → ℕ → Grounds → Type 0
-- The exchange that it reads ended with a whole response, or what that keeps was renewed.
HasGrounds l t k (Live js) =
    ((o : ℕ) × (e : ℕ) × (w : Response) × (rs : List Reply)
    × (reads l k ≡ Some o) × Ends l o e (Whole w rs) × (js ≡ numbers rs))
    ⊎ ((o : ℕ) × (e : ℕ) × (s : Stored) × (r : Reply)
    × (reads l k ≡ Some o) × Ends l o e (Renewed s r) × (js ≡ renewed_list s r.number))
-- In this moment the ask was given what is stored.
HasGrounds l t k (Kept js) = (c : ℕ) × (a : Ask) × (at l k ≡ Some (noted t (Asks c a) (Serves js)))
HasGrounds l t k (Fault cause n) = Caused l t k cause n

-- A GET is served a stored response while it is fresh, or joins the exchange of an equal one.
-- Whatever else asks for something opens an exchange, but where there is no room. One that asks
-- whether a stored response is valid still needs one with an ETag, which isn't fresh.
abbrev pub AskNote : List Noted → ℕ → Sense → Note → Type 0
AskNote l t (Requests q) (Serves js) = (s : Stored) × IsStored l q s × (is_fresh t s ≡ true)
    × (s.list ≡ js)
AskNote l t (Requests q) (Joins o) = joins l q ≡ Some o
AskNote l t (Requests q) (Begins r) = (r ≡ q) × (joins l q ≡ None) × (has_room l t q ≡ true)
AskNote l t (Requests q) (Renews r kept) = (r ≡ q) × (joins l q ≡ None) × (has_room l t q ≡ true)
    × (is_get q ≡ true) × (s : Stored) × IsStored l q s × (kept ≡ pieces_of l s)
    × (is_fresh t kept ≡ false) × (is_some kept.response.etag ≡ true)
AskNote l t (Requests q) Plain = (joins l q ≡ None) × (has_room l t q ≡ false)
AskNote l t (Refuses cause status) Plain = ⊤
AskNote l t _ _ = ⊥

-- One that isn't served could be served no more.
abbrev pub UnservedNote : List Noted → ℕ → Sense → Note → Type 0
UnservedNote l t (Requests q) (Serves js) = ⊤
UnservedNote l t (Requests q) note = MissesAlone l t q
UnservedNote l t (Refuses cause status) note = ⊤

-- Nor does one that would observe ask whether something is valid still.
abbrev pub MissNote : List Noted → ℕ → Ask → Note → Type 0
MissNote l t a (Renews q s) =
    UnservedNote l t a.sense (Renews q s) × (would_observe l a q ≡ false)
MissNote l t a note = UnservedNote l t a.sense note

-- What a first sending owes: it is the next message of an exchange whose turn it is at its peer,
-- under a token and an ID of its own.
pub record MayBeFirst
    (l : List Noted) (t o : ℕ) (p : Peer) (bytes : List ℕ) (m : Content) (timeout : Option ℕ)
    : Type 0 where
  pub since : ℕ
  pub request : CoapRequest
  pub opening : begun l o ≡ Some (record { since = since; request = request })
  pub others : List ℕ
  pub first : waiting l p ≡ o ∷ others
  pub free : outstanding l p ≡ None
  pub peer : p ≡ request.peer
  pub message : next_message (manner l o) request (progress request (heard_for l o)) m.mid m.token
      ≡ Some m
  pub spelled : Spells m bytes
  pub token_size : length m.token ≡ 8
  pub token_apart : bears_token l m.token ≡ false
  pub mid_apart : bears_mid l t p m.mid ≡ false
  pub wait : ℕ
  pub first_wait : timeout ≡ Some wait
  pub least : ACK_TIMEOUT ≤ wait
  pub greatest : wait ≤ LONGEST_ACK_TIMEOUT

-- What a copy owes: the message is outstanding, four copies weren't sent, and a tick saw that one
-- is due.
pub record MayBeCopy (l : List Noted) (i : ℕ) (p : Peer) (bytes : List ℕ) : Type 0 where
  pub opening : ℕ
  pub message : Content
  pub moment : ℕ
  pub timeout : Option ℕ
  pub way : Transmission
  pub stands : at l i
      ≡ Some (noted moment (Sends p bytes timeout) (First opening message))
  pub is_outstanding : transmission l i ≡ Some way
  pub few : way.copies < MAX_RETRANSMIT
  pub is_due : due way ≤ ticked l

-- the ACK or RST that is owed
pub record MayConfirm (l : List Noted) (p : Peer) (bytes : List ℕ) : Type 0 where
  pub confirmation : Confirmation
  pub is_owed : owed l ≡ Some confirmation
  pub peer : p ≡ confirmation.peer
  pub spelled : Spells (empty confirmation.kind confirmation.mid) bytes

-- A sending is a first one, an equal copy of one, or the ACK or RST that is owed.
abbrev pub SentNote : List Noted → ℕ → Peer → List ℕ → Option ℕ → Note → Type 0
SentNote l t p bytes w (First o m) = (owed l ≡ None) × MayBeFirst l t o p bytes m w
SentNote l t p bytes w (Copies i) = (owed l ≡ None) × (w ≡ None) × MayBeCopy l i p bytes
SentNote l t p bytes w Confirms = (w ≡ None) × MayConfirm l p bytes
SentNote l t p bytes w _ = ⊥

-- What is said of a datagram that was heard: that it repeats one, or which first sending it
-- answers.
pub record MaySay
    (l : List Noted) (t : ℕ) (p : Peer) (bytes : List ℕ) (note : Note) (m : Content) : Type 0 where
  pub spelled : Spells m bytes
  pub unheard : repeated l t p m ≡ None
  pub remembered : can_be_remembered l t p m ≡ true
  pub says : note ≡ Says m (answers l p m) (notice_of l t p m (answers l p m))

abbrev pub HeardNote : List Noted → ℕ → Peer → List ℕ → Note → Type 0
HeardNote l t p bytes (Says m to notice) = MaySay l t p bytes (Says m to notice) m
HeardNote l t p bytes (Repeats m j) = Spells m bytes × (repeated l t p m ≡ Some j)
HeardNote l t p bytes Garbled =
    AllByRecursion (λ (b : ℕ). b < 256) bytes × ((m : Content) → Spells m bytes → ⊥)
HeardNote l t p bytes _ = ⊥

-- what has no note of its own
abbrev pub IsPlain : Note → Type 0
IsPlain Plain = ⊤
IsPlain _ = ⊥

-- A connection waits for its oldest ask that isn't answered.
abbrev pub pending : List Noted → ℕ → Option ℕ
pending l c = slice_get (asks_of l c) (length (answers_of l c))

-- The ask that an open connection waits for reads an exchange that is open.
abbrev pub reads_open : List Noted → Option ℕ → Bool
reads_open l None = false
reads_open l (Some o) = is_going l o

abbrev pub is_in_hand : List Noted → ℕ → Bool
is_in_hand l c =
    not (is_open l c) || option_map_or (λ (k : ℕ). reads_open l (reads l k)) (pending l c) true

-- The next message of an open exchange is out, or waits after another one.
abbrev pub finds_outstanding : List Noted → Option Begun → Bool
finds_outstanding l None = false
finds_outstanding l (Some b) = is_some (outstanding l b.request.peer)

abbrev pub is_under_way : List Noted → ℕ → Bool
is_under_way l o = is_some (waits_for l o) || finds_outstanding l (begun l o)

-- no copy and no deadline was due at the last tick
abbrev pub is_early : ℕ → Option Transmission → Bool
is_early t None = true
is_early t (Some x) = nat_lt t (due x)

abbrev pub is_done : List Noted → FirstSending → Bool
is_done l f = is_early (ticked l) (transmission l f.number)

abbrev pub is_in_time : List Noted → ℕ → Bool
is_in_time l o = not (is_late (ticked l) (begun l o))

-- no watch was idle then
abbrev pub is_asked_for : List Noted → Watch → Bool
is_asked_for l w = not (idles (ticked l) w)

-- What is done between two steps, and not only begun.
pub record AtRest (l : List Noted) : Type 0 where
  -- each ask of an open connection is answered, or reads an exchange that is open
  pub waits : list_all (is_in_hand l) (range_with_len 0 (opened l)) ≡ true
  -- and while the journal isn't sealed: the last datagram got what it asks for,
  pub given : is_sealed l ≡ false → owed l ≡ None
  -- no message waits where none is outstanding,
  pub sent : is_sealed l ≡ false → list_all (is_under_way l) (open_exchanges l) ≡ true
  -- and what was due at the last tick is done: copies, deadlines of exchanges, and the end of
  -- watches of what nobody asks for
  pub copied : is_sealed l ≡ false → list_all (is_done l) (firsts l) ≡ true
  pub ended : is_sealed l ≡ false → list_all (is_in_time l) (open_exchanges l) ≡ true
  pub forgotten : is_sealed l ≡ false → list_all (is_asked_for l) (watches l) ≡ true

-- While the journal isn't sealed and all is done, an input may come.
abbrev pub MayCome : List Noted → Type 0
MayCome l = (is_sealed l ≡ false) × AtRest l

-- What a first sending owes that is copied: a token and an ID of its own here too.
pub record IsApart (l : List Noted) (t : ℕ) (p : Peer) (bytes : List ℕ) (m : Content)
    (timeout : Option ℕ) : Type 0 where
  pub spelled : Spells m bytes
  pub token_size : length m.token ≡ 8
  pub token_apart : bears_token l m.token ≡ false
  pub mid_apart : bears_mid l t p m.mid ≡ false
  pub first_wait : is_some timeout ≡ true

-- what is remembered of what was heard
pub record MayRecall (l : List Noted) (t : ℕ) (p : Peer) (bytes : List ℕ)
    (m : Content) : Type 0 where
  pub spelled : Spells m bytes
  pub such : is_such m.kind ≡ true
  pub unheard : repeated l t p m ≡ None
  pub remembered : can_be_remembered l t p m ≡ true

-- What a copy of a first sending owes that an answer may rest on: it asks for what the ask did that
-- is copied too, or for a block of that.
pub record IsSentForCopied (l : List Noted) (o : ℕ) (p : Peer) (m : Content) : Type 0 where
  pub exchange : Begun
  pub asked : carried l o ≡ Some exchange
  pub peer : p ≡ exchange.request.peer
  pub manner : Manner
  pub block : Option Block
  pub asks : m ≡ asking manner exchange.request block m.mid m.token

-- What a copy of a reply owes: the message to which it came is copied too, and was sent for such an
-- ask.
pub record RepliesToCopied (l : List Noted) (t : ℕ) (p : Peer) (bytes : List ℕ)
    (m : Content) : Type 0 where
  pub spelled : Spells m bytes
  pub response : 32 ≤ m.code
  pub unheard : repeated l t p m ≡ None
  pub remembered : can_be_remembered l t p m ≡ true
  pub first : FirstSending
  pub under : replied_by l p m ≡ Some first
  pub kind : IsReplyKind m.kind m.mid first.message.mid
  pub exchange : Begun
  pub asked : carried l first.opening ≡ Some exchange

-- No other ask that is copied asks for the same.
abbrev pub IsCopiedOnce : List Noted → CoapRequest → Type 0
IsCopiedOnce l q = (o : ℕ) (b : Begun) → carried l o ≡ Some b → asks_same q b.request ≡ false

-- A copy stands before all that is the journal's own, in the order of the journal given out.
abbrev pub CopiedNote : List Noted → ℕ → Mark → Done → Note → Type 0
CopiedNote l t Past (Sent p bytes w) (Bygone m) = IsApart l t p bytes m w
CopiedNote l t Past (Heard p bytes) (Recalls m answer) = MayRecall l t p bytes m
CopiedNote l t Ground (Asked c a) Plain =
    (q : CoapRequest) × (a.sense ≡ Requests q) × (is_get q ≡ true) × IsCopiedOnce l q
CopiedNote l t Ground (Sent p bytes w) (First o m) =
    IsApart l t p bytes m w × IsSentForCopied l o p m
CopiedNote l t Ground (Heard p bytes) (Recalls m answer) = RepliesToCopied l t p bytes m
CopiedNote l t mark done note = ⊥

abbrev pub copied_by : Deed → ℕ → ℕ
copied_by (Carries n mark d) old = n + 1
copied_by _ old = old

abbrev pub copied_below : List Noted → ℕ
copied_below [] = 0
copied_below (x ∷ older) = copied_by x.written.deed (copied_below older)

-- the number of the next connection: where one was opened, the one after that
abbrev pub IsNextConn : Bool → ℕ → ℕ → Type 0
IsNextConn true next c = c ≡ next
IsNextConn false next c = next ≤ c

-- Which entry may follow, at this moment. Connections are numbered in the order in which they are
-- opened; the first of a journal by how many were opened before it.
abbrev pub Follows : List Noted → ℕ → Deed → Note → Type 0
Follows l t (Opens c) note = MayCome l × IsNextConn (has_opened l) (opened l) c × IsPlain note
Follows l t (Asks c a) note =
    MayCome l × (is_open l c ≡ true) × (length (asks_of l c) ≡ length (answers_of l c))
    × AskNote l t a.sense note × MissNote l t a note
Follows l t (Sends p bytes w) note = (is_sealed l ≡ false) × SentNote l t p bytes w note
-- It comes from a peer that something was sent to.
Follows l t (Hears p bytes) note =
    MayCome l × (length bytes ≤ MAX_DATAGRAM_LEN) × (knows l p ≡ true)
    × HeardNote l t p bytes note
Follows l t Passes note = MayCome l × IsPlain note
-- The n-th answer of a connection is to its n-th ask.
Follows l t (Answers c k g) note =
    (owed l ≡ None) × (is_open l c ≡ true) × (pending l c ≡ Some k)
    × HasGrounds l t k g × IsPlain note
Follows l t (Shuts c) note = (owed l ≡ None) × (is_open l c ≡ true) × IsPlain note
Follows l t Seals note = MayCome l × MaySeal l × IsPlain note
Follows l t (Carries n mark d) note =
    (are_copies l ≡ true) × (copied_below l ≤ n) × CopiedNote l t mark d note

-- Each entry may follow the older ones, and moments never fall.
abbrev pub Legal : List Noted → Type 0
Legal [] = ⊤
Legal (x ∷ older) =
    Legal older × (newest older ≤ x.written.moment)
    × Follows older x.written.moment x.written.deed x.note

abbrev pub Justified : List Written → Type 0
Justified h = (l : List Noted) × (entries l ≡ h) × Legal l

-- One reading of the history is legal and at rest.
pub record Stands (h : List Written) : Type 0 where
  pub reading : List Noted
  pub entries_are : entries reading ≡ h
  pub legal : Legal reading
  pub at_rest : AtRest reading
