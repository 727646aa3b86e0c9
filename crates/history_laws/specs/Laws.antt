-- What holds of every legal reading of a history.
use Rattle.std.specs.Prelude.{◌≡◌, ◌≢◌, ◌↔◌, ◌⊎◌, ℕ, ◌+◌, ◌<◌, ◌≤◌, true, false, List, [], ◌∷◌, length, take, Option, Some, None, is_some, ⊤}
use Rattle.std.specs.List.{Contains}
use Rattle.limits.specs.declared.TheConstants.{MAX_RETRANSMIT, MESSAGE_ID_LIFETIME}
use Rattle.coap_codec.specs.declared.message.MsgType.{MsgType}
use Rattle.coap_codec.specs.declared.message.MsgType.TheVariants.{Ack, Rst}
use Rattle.coap_codec.specs.Spelling.{Content, Spells}
use Rattle.coap_codec.specs.declared.block.Block.{Block}
use Rattle.uri_map.specs.declared.peer.Peer.{Peer}
use Rattle.ask_model.specs.declared.cause.Cause.{Cause}
use Rattle.ask_model.specs.declared.cause.Cause.TheVariants as C
use Rattle.ask_model.specs.Requests.{CoapRequest, Sense, Requests, Refuses, Manner, asking, block_message, carried_by, observe_message}
use Rattle.ask_model.specs.Sharing.{asked_key, asked_place, asks_same, is_get}
use Rattle.ask_model.specs.Observing.{may_observe}
use Rattle.ask_model.specs.Views.{Ask}
use Rattle.resp_cache.specs.Stored.{Stored, is_fresh}
use Rattle.journal_book.specs.Entries.{Grounds, Kept, Fault, Deed, Asks, Sends, Hears, Passes, Answers, Shuts}
use Rattle.history_laws.specs.Confirmations.{empty}
use Rattle.history_laws.specs.Readings.{Noted, Note, Begins, First, Copies, Says, Notice, noted, at, before, ticked}
use Rattle.history_laws.specs.Responses.{Response}
use Rattle.history_laws.specs.Connections.{is_open, asks_of, answers_of, is_sealed}
use Rattle.blockwise.specs.Reading.{offset_in}
use Rattle.blockwise.specs.Uploads.{next_block}
use Rattle.history_laws.specs.Progress.{Reply, Ending, Whole, Progress, Gives, progress, next_message, Point, first_point, block_for, point_after}
use Rattle.history_laws.specs.Transmissions.{FirstSending, firsts, Transmission, transmission, due, outstanding}
use Rattle.history_laws.specs.Exchanges.{Begun, begun, kept, begins_with, ask_behind, turn, waits_for, replies, heard_for, end_here, end_of, open_exchanges}
use Rattle.history_laws.specs.Joining.{writes_at, outrun, is_joinable, joins}
use Rattle.history_laws.specs.Observing.{Watch, most_watches, manner, watches}
use Rattle.history_laws.specs.Storing.{IsStored, MissesAlone}
use Rattle.history_laws.specs.Hearing.{IsReplyKind, repeated, has_room}
use Rattle.history_laws.specs.Justified.{IsAsk, Ends, reads, Legal, AtRest}

-- The entry with this number is a first sending of the exchange, at this moment: of this message,
-- to this peer.
pub record IsFirst (l : List Noted) (t o i : ℕ) (p : Peer) (m : Content) : Type 0 where
  pub bytes : List ℕ
  pub timeout : Option ℕ
  pub stands : at l i ≡ Some (noted t (Sends p bytes timeout) (First o m))

-- A token is borne by one first sending.
abbrev pub TokensApart : Type 0
TokensApart =
    (l : List Noted) (f g : FirstSending) → Legal l → Contains (firsts l) f → Contains (firsts l) g
    → f.message.token ≡ g.message.token → f.number ≡ g.number

-- To one peer, a message ID is borne by one first sending in 494 seconds.
abbrev pub IdsApart : Type 0
IdsApart =
    (l : List Noted) (f g : FirstSending) → Legal l → Contains (firsts l) f → Contains (firsts l) g
    → f.peer ≡ g.peer → f.message.mid ≡ g.message.mid → f.number < g.number
    → f.moment + MESSAGE_ID_LIFETIME ≤ g.moment

-- The answer with this number is to that ask of the connection, on these grounds.
pub record IsAnswer (l : List Noted) (n c k : ℕ) (g : Grounds) : Type 0 where
  pub moment : ℕ
  pub note : Note
  pub stands : at l n ≡ Some (noted moment (Answers c k g) note)

-- A connection's answers are to its first asks, in their order.
abbrev pub AnsweredInOrder : Type 0
AnsweredInOrder = (l : List Noted) (c : ℕ) → Legal l
    → answers_of l c ≡ take (length (answers_of l c)) (asks_of l c)

-- An ask is answered at most once.
abbrev pub AnsweredOnce : Type 0
AnsweredOnce =
    (l : List Noted) (i j c d k : ℕ) (g h : Grounds) → Legal l
    → IsAnswer l i c k g → IsAnswer l j d k h → (i ≡ j) × (c ≡ d)

-- To one peer, one message is outstanding.
abbrev pub OneOutstanding : Type 0
OneOutstanding =
    (l : List Noted) (s t o i q j : ℕ) (p : Peer) (m n : Content) → Legal l → IsFirst l s o i p m
    → IsFirst l t q j p n
    → is_some (transmission l i) ≡ true → is_some (transmission l j) ≡ true → i ≡ j

-- A message is copied four times at most.
abbrev pub FewCopies : Type 0
FewCopies =
    (l : List Noted) (i : ℕ) (way : Transmission)
    → Legal l → transmission l i ≡ Some way → way.copies ≤ MAX_RETRANSMIT

-- what a step does after its input
abbrev pub IsDone : Deed → Type 0
IsDone (Sends p b w) = ⊤
IsDone (Answers c k g) = ⊤
IsDone (Shuts c) = ⊤
IsDone _ = ⊥

-- The copy with this number goes out in the step of the first tick that finds it due: the tick
-- before that one came too early.
pub record IsInTime (l : List Noted) (n i : ℕ) : Type 0 where
  pub way : Transmission
  pub is_outstanding : transmission (before l n) i ≡ Some way
  pub tick : ℕ
  pub moment : ℕ
  pub note : Note
  pub stands : at l tick ≡ Some (noted moment Passes note)
  pub is_due : due way ≤ moment
  pub first : ticked (before l tick) < due way
  pub earlier : tick < n
  pub same_step : (j : ℕ) (x : Noted) → tick < j → j < n → at l j ≡ Some x → IsDone x.written.deed

abbrev pub CopiedInTime : Type 0
CopiedInTime =
    (l : List Noted) (n t i : ℕ) (p : Peer) (bytes : List ℕ) (w : Option ℕ) → Legal l
    → at l n ≡ Some (noted t (Sends p bytes w) (Copies i)) → IsInTime l n i

-- At rest, nothing that is outstanding was due at the last tick: its copy is out, or it is given
-- up.
abbrev pub NoneLeft : Type 0
NoneLeft =
    (l : List Noted) (i : ℕ) (way : Transmission) → AtRest l → is_sealed l ≡ false
    → transmission l i ≡ Some way → ticked l < due way

-- The open exchanges are just those that were opened and have not ended.
abbrev pub OpenExactly : Type 0
OpenExactly =
    (l : List Noted) (o : ℕ) → Contains (open_exchanges l) o ↔ (is_some (begun l o) ≡ true)
    × (end_of l o ≡ None)

-- An exchange ends at the first entry that ends it, and in the way of that entry.
abbrev pub EndsFirst : Type 0
EndsFirst =
    (l : List Noted) (o e : ℕ) (how : Ending) → Ends l o e how
    → (x : Noted) × (at l e ≡ Some x) × (end_of (before l e) o ≡ None)
    × (end_here (begun (before l e) o) (kept (before l e) o) e (heard_for (before l e) o)
    (turn (before l e) o x)
    ≡ Some how)

-- After an exchange's end nothing goes out for it but copies: its first sending stands before that.
abbrev pub NoneAfterEnd : Type 0
NoneAfterEnd =
    (l : List Noted) (t o i e : ℕ) (p : Peer) (m : Content) (how : Ending) → Legal l
    → IsFirst l t o i p m → Ends l o e how → i < e

-- The reply was heard after that first sending of the exchange, from the peer that it went to, is a
-- response with its token, and no repeat.
pub record IsReplyTo (l : List Noted) (o : ℕ) (r : Reply) : Type 0 where
  pub peer : Peer
  pub sent : Content
  pub sent_at : ℕ
  pub first : IsFirst l sent_at o r.sending peer sent
  pub moment : ℕ
  pub bytes : List ℕ
  pub notice : Notice
  pub heard : at l r.number ≡ Some
      (noted moment (Hears peer bytes) (Says r.message (Some r.sending) notice))
  pub spelled : Spells r.message bytes
  pub after : r.sending < r.number
  pub token : r.message.token ≡ sent.token
  pub response : 32 ≤ r.message.code
  pub kind : IsReplyKind r.message.kind r.message.mid sent.mid
  pub unheard : repeated (before l r.number) moment peer r.message ≡ None

abbrev pub RepliesFit : Type 0
RepliesFit = (l : List Noted) (o : ℕ) (r : Reply) → Legal l → Contains (replies l o) r
    → IsReplyTo l o r

-- Each first sending of an exchange is its next message after what was heard for it before.
abbrev pub SendsNext : Type 0
SendsNext =
    (l : List Noted) (t o i : ℕ) (p : Peer) (m : Content) (b : Begun) → Legal l
    → IsFirst l t o i p m
    → begun l o ≡ Some b
    → next_message (manner (before l i) o) b.request
    (progress b.request (heard_for (before l i) o)) m.mid m.token ≡ Some m

-- The reply came to a message for this block: one of its representation, or of its body.
pub record IsFetched (l : List Noted) (o : ℕ) (q : CoapRequest) (block : Option Block)
    (r : Reply) : Type 0 where
  pub fits : IsReplyTo l o r
  pub moment : ℕ
  pub mid : ℕ
  pub token : List ℕ
  pub manner : Manner
  pub first : IsFirst l moment o r.sending q.peer (asking manner q block mid token)

-- So did each of these, to one for the block after those before.
abbrev pub AreFetched : List Noted → ℕ → CoapRequest → Point → List Reply → Type 0
AreFetched l o q point [] = ⊤
AreFetched l o q point (r ∷ rs) =
    IsFetched l o q (block_for point) r × AreFetched l o q (point_after point r.message) rs

-- What the exchange of this request begins with: a notification that opened it, with the first
-- piece. It came under the token of a message that asked to be told of changes, for an ask of the
-- same, to which a reply had come; and no write to the place had ended since that ask (RFC 7641
-- section 3.2, RFC 7959 section 2.6).
pub record IsBegunBy (l : List Noted) (o : ℕ) (q : CoapRequest) (r : Reply) : Type 0 where
  pub number : r.number ≡ o
  pub ask : ℕ
  pub goes_back : ask_behind l o ≡ ask
  pub since : ℕ
  pub asked : begun l ask ≡ Some (record { since = since; request = q })
  pub get : is_get q ≡ true
  pub fits : IsReplyTo l ask r
  pub moment : ℕ
  pub mid : ℕ
  pub token : List ℕ
  pub first : IsFirst l moment ask r.sending q.peer (observe_message q mid token)
  pub after : ask < r.sending
  pub current : (w e : ℕ) (b : Begun) (how : Ending) → begun l w ≡ Some b
      → writes_at (asked_place q) b ≡ true → Ends l w e how → e ≤ o → e ≤ ask

abbrev pub BegunByNotices : Type 0
BegunByNotices =
    (l : List Noted) (o : ℕ) (b : Begun) (r : Reply) → Legal l → begun l o ≡ Some b
    → Contains (begins_with l o) r → IsBegunBy l o b.request r

-- What an exchange ends with as a whole came piece by piece, each one after those before: the
-- pieces of its representation (RFC 7959 section 2.4), the first of which may be what it begins
-- with, or the answers to the pieces of its body (section 2.3).
pub record IsFetchedOn (l : List Noted) (o : ℕ) (q : CoapRequest) (rs : List Reply)
    : Type 0 where
  pub first : Reply
  pub more : List Reply
  pub are : rs ≡ first ∷ more
  pub begun_by : IsBegunBy l o q first
  pub fetched : AreFetched l o q (point_after (first_point q) first.message) more

abbrev pub FetchedInOrder : Type 0
FetchedInOrder =
    (l : List Noted) (o e : ℕ) (b : Begun) (w : Response) (rs : List Reply) → Legal l
    → begun l o ≡ Some b → Ends l o e (Whole w rs)
    → AreFetched l o b.request (first_point b.request) rs ⊎ IsFetchedOn l o b.request rs

-- The exchange has a first sending in the entry with this number.
abbrev pub IsSending : List Noted → ℕ → ℕ → Type 0
IsSending l o i = (t : ℕ) × (p : Peer) × (m : Content) × IsFirst l t o i p m

-- the block of the body that it brings: none where that goes whole
abbrev pub brings : Progress → Option Block
brings (Gives upload got) = next_block upload
brings progress = None

abbrev pub block_sent : List Noted → ℕ → CoapRequest → ℕ → Option Block
block_sent l o q i = brings (progress q (heard_for (before l i) o))

abbrev pub bytes_sent : List Noted → ℕ → CoapRequest → ℕ → ℕ
bytes_sent l o q i = length (carried_by q.method (block_sent l o q i) q.body)

-- It is the exchange's first and begins with the first byte of the body, or it begins where the one
-- before it ends.
abbrev pub IsPart : List Noted → ℕ → CoapRequest → ℕ → Type 0
IsPart l o q i =
    (((j : ℕ) → IsSending l o j → i ≤ j) × (offset_in (block_sent l o q i) ≡ 0))
    ⊎ ((j : ℕ) × IsSending l o j × (j < i) × ((k : ℕ) → IsSending l o k → k < i → k ≤ j)
    × (offset_in (block_sent l o q j) + bytes_sent l o q j ≡ offset_in (block_sent l o q i)))

-- What a write sends are one message, or blocks of its body, in order, without a gap and without an
-- overlap.
abbrev pub WritesInOrder : Type 0
WritesInOrder =
    (l : List Noted) (t o i : ℕ) (p : Peer) (m : Content) (b : Begun) → Legal l
    → begun l o ≡ Some b → b.request.method ≢ 1
    → IsFirst l t o i p m
    → (m ≡ block_message b.request (block_sent l o b.request i) m.mid m.token)
    × IsPart l o b.request i

-- The exchange that an ask reads was opened by it, or before it.
abbrev pub ReadsOpened : Type 0
ReadsOpened = (l : List Noted) (k o : ℕ) → Legal l → reads l k ≡ Some o → (o ≤ k)
    × (is_some (begun l o) ≡ true)

-- Of the open exchanges, a GET may join one at most.
abbrev pub OneJoinable : Type 0
OneJoinable =
    (l : List Noted) (q : CoapRequest) (a b : ℕ) → Legal l
    → Contains (open_exchanges l) a → is_joinable l q a ≡ true
    → Contains (open_exchanges l) b → is_joinable l q b ≡ true → a ≡ b

-- The ask opened an exchange for this request: there was none to join, and there was room. It has
-- at most one first sending after the same replies: none is sent twice.
pub record OpensOne (l : List Noted) (k : ℕ) (q : CoapRequest) : Type 0 where
  pub since : ℕ
  pub opened : begun l k ≡ Some (record { since = since; request = q })
  pub alone : joins (before l k) q ≡ None
  pub room : has_room (before l k) since q ≡ true
  pub once : (s t i j : ℕ) (p r : Peer) (m n : Content) → IsFirst l s k i p m → IsFirst l t k j r n
      → length (replies (before l i) k) ≡ length (replies (before l j) k) → i ≡ j

-- The ask reads along an exchange that was opened before for an equal GET, was open, and was outrun
-- by no write. It opens none, and nothing is sent for it.
pub record JoinsOne (l : List Noted) (k : ℕ) (q : CoapRequest) : Type 0 where
  pub opening : ℕ
  pub reads : reads l k ≡ Some opening
  pub earlier : opening < k
  pub exchange : Begun
  pub opened : begun l opening ≡ Some exchange
  pub same : asks_same q exchange.request ≡ true
  pub going : Contains (open_exchanges (before l k)) opening
  pub fresh : outrun (before l k) (asked_place q) opening ≡ false
  pub unopened : begun l k ≡ None
  pub unsent : (t i : ℕ) (p : Peer) (m : Content) → IsFirst l t k i p m → ⊥

-- The ask is served what is stored, which is fresh. It opens no exchange, nothing is sent for it,
-- and its answer is just that.
pub record ServesOne (l : List Noted) (t k : ℕ) (q : CoapRequest) : Type 0 where
  pub stored : Stored
  pub is : IsStored (before l k) q stored
  pub fresh : is_fresh t stored ≡ true
  pub unopened : begun l k ≡ None
  pub unsent : (s i : ℕ) (p : Peer) (m : Content) → IsFirst l s k i p m → ⊥
  pub answered : (n c : ℕ) (g : Grounds) → IsAnswer l n c k g → g ≡ Kept stored.list

-- The ask opened no exchange, nothing is sent for it, and its answer is the proxy's own, for this
-- cause.
pub record OpensNone (l : List Noted) (k : ℕ) (cause : Cause) : Type 0 where
  pub unopened : begun l k ≡ None
  pub unsent : (t i : ℕ) (p : Peer) (m : Content) → IsFirst l t k i p m → ⊥
  pub answered : (n c : ℕ) (g : Grounds) → IsAnswer l n c k g → g ≡ Fault cause k

-- There was nothing that it might join, and no room.
pub record TurnsAway (l : List Noted) (t k : ℕ) (q : CoapRequest) : Type 0 where
  pub unopened : OpensNone l k C.Busy
  pub alone : joins (before l k) q ≡ None
  pub full : has_room (before l k) t q ≡ false

-- An ask for something is served what is stored. Only where nothing is, or 256 others were used
-- since, it opens one exchange, or joins one, or does neither where there is no room. A refused one
-- opens none.
abbrev pub OpensFor : List Noted → ℕ → ℕ → Sense → Type 0
OpensFor l t k (Requests q) =
    ServesOne l t k q
    ⊎ (MissesAlone (before l k) t q × (OpensOne l k q ⊎ (JoinsOne l k q ⊎ TurnsAway l t k q)))
OpensFor l t k (Refuses cause status) = OpensNone l k cause

abbrev pub AskedOnce : Type 0
AskedOnce = (l : List Noted) (k c : ℕ) (a : Ask) → Legal l → (h : IsAsk l k c a)
    → OpensFor l h.moment k a.sense

-- At rest, the message of an open exchange waits for its reply, or to be sent after the one that is
-- outstanding at its peer.
abbrev pub SentAtOnce : Type 0
SentAtOnce =
    (l : List Noted) (o : ℕ) (b : Begun) → AtRest l → is_sealed l ≡ false → begun l o ≡ Some b
    → end_of l o ≡ None
    → ((i : ℕ) × (waits_for l o ≡ Some i))
    ⊎ ((f : FirstSending) × (outstanding l b.request.peer ≡ Some f))

-- At rest, an ask that opened no exchange and whose connection is open is answered.
abbrev pub AnsweredAtOnce : Type 0
AnsweredAtOnce =
    (l : List Noted) (k c : ℕ) (a : Ask) → Legal l → AtRest l → is_open l c ≡ true → IsAsk l k c a
    → reads l k ≡ None
    → (n : ℕ) × (g : Grounds) × IsAnswer l n c k g

-- The entry with this number sends these bytes to this peer, as the first sending of the exchange
-- that goes back to an ask before it, and they spell what that asks for.
pub record IsAskSent (l : List Noted) (i : ℕ) (p : Peer) (bytes : List ℕ) : Type 0 where
  pub ask : ℕ
  pub conn : ℕ
  pub asked : Ask
  pub request : CoapRequest
  pub message : Content
  pub moment : ℕ
  pub timeout : Option ℕ
  pub opening : ℕ
  pub stands : at l i ≡ Some (noted moment (Sends p bytes timeout) (First opening message))
  pub goes_back : ask_behind l opening ≡ ask
  pub after : ask < i
  pub asks : IsAsk l ask conn asked
  pub sense : asked.sense ≡ Requests request
  pub peer : p ≡ request.peer
  pub block : Option Block
  pub manner : Manner
  pub carries : message ≡ asking manner request block message.mid message.token
  pub spelled : Spells message bytes

-- These bytes are an empty ACK or RST to the peer of the datagram that was heard just before.
pub record IsConfirmation (l : List Noted) (i : ℕ) (p : Peer) (bytes : List ℕ) : Type 0 where
  pub kind : MsgType
  pub mid : ℕ
  pub ack_or_rst : (kind ≡ Ack) ⊎ (kind ≡ Rst)
  pub spelled : Spells (empty kind mid) bytes
  pub heard : ℕ
  pub just_before : heard + 1 ≡ i
  pub moment : ℕ
  pub datagram : List ℕ
  pub note : Note
  pub stands : at l heard ≡ Some (noted moment (Hears p datagram) note)

-- Each sending is a first one that an ask asks for, equals one before it, or is an ACK or RST.
abbrev pub NothingElseSent : Type 0
NothingElseSent =
    (l : List Noted) (i t : ℕ) (p : Peer) (bytes : List ℕ) (w : Option ℕ) (note : Note) → Legal l
    → at l i ≡ Some (noted t (Sends p bytes w) note)
    → IsAskSent l i p bytes
    ⊎ (((j : ℕ) × (j < i) × IsAskSent l j p bytes) ⊎ IsConfirmation l i p bytes)

-- A watch came of a GET that a server was asked whose resources are to be observed, by a message
-- that asked for that (RFC 7641 section 3.1). Notifications come under its token, after the reply
-- to it that registered the proxy.
pub record IsObserved (l : List Noted) (w : Watch) : Type 0 where
  pub since : ℕ
  pub conn : ℕ
  pub ask : Ask
  pub request : CoapRequest
  pub asked : at l w.held.opening ≡ Some (noted since (Asks conn ask) (Begins request))
  pub sense : ask.sense ≡ Requests request
  pub may : may_observe ask.rules request ≡ true
  pub key : w.held.key ≡ asked_key request
  pub moment : ℕ
  pub mid : ℕ
  pub sent : IsFirst l moment w.held.opening w.sending request.peer
      (observe_message request mid w.held.token)
  pub reply : Reply
  pub replied : IsReplyTo l w.held.opening reply
  pub under : reply.sending ≡ w.sending

abbrev pub ObservesAsked : Type 0
ObservesAsked = (l : List Noted) (w : Watch) → Legal l → Contains (watches l) w → IsObserved l w

-- At most 64 resources are observed.
abbrev pub ObservesFew : Type 0
ObservesFew = (l : List Noted) → Legal l → length (watches l) ≤ most_watches
