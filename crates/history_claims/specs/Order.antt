-- What goes out, and in which order: said of a journal's entries alone, and of its own sendings.
use Rattle.std.specs.Prelude.{◌≡◌, ◌≢◌, ◌⊎◌, ℕ, ◌+◌, ◌*◌, ◌^◌, ◌<◌, ◌≤◌, true, List, length, Option, Some, None, ⊤, nat_lt}
use Rattle.std.specs.List.{Contains}
use Rattle.limits.specs.declared.TheConstants.{MAX_RETRANSMIT, MESSAGE_ID_LIFETIME}
use Rattle.coap_codec.specs.declared.message.MsgType.{MsgType}
use Rattle.coap_codec.specs.declared.message.MsgType.TheVariants.{Ack, Rst}
use Rattle.coap_codec.specs.declared.block.Block.{Block}
use Rattle.coap_codec.specs.Spelling.{Content, Spells}
use Rattle.blockwise.specs.Reading.{offset_in, size_of}
use Rattle.uri_map.specs.declared.peer.Peer.{Peer}
use Rattle.ask_model.specs.Requests.{CoapRequest, Requests, Manner, Plainly, Observing, Validating, carried_by}
use Rattle.ask_model.specs.Observing.{may_observe}
use Rattle.resp_cache.specs.Stored.{Stored}
use Rattle.journal_book.specs.Entries.{Grounds, Sends, Hears, Passes, Answers, Written}
use Rattle.history_laws.specs.Confirmations.{empty}
use Rattle.history_laws.specs.Justified.{Stands}
use Rattle.history_laws.specs.Grounds.{replies_in}
use Rattle.history_claims.specs.Headline.{IsEntry, IsAsked, IsFirstSending, WasFirstSent, IsSentFor, IsHeard, IsResponse, IsOpen, IsWriteAnswer}
use Rattle.history_claims.specs.Stored.{WasStored}
use Rattle.history_claims.specs.Causes.{AreCopies}
use Rattle.history_claims.specs.Apart.{AreSameGets}
use Rattle.history_claims.specs.Once.{IsAtHand, CanWaitFor}

-- The entry first sent a message for the ask w, as this table says.
abbrev pub IsSendingFor : List Written → (ℕ → ℕ) → ℕ → ℕ → Type 0
IsSendingFor h owner w i =
    (owner i ≡ w) × (t : ℕ) × (p : Peer) × (m : Content) × IsFirstSending h i t p m

-- It is the first one for its ask, and begins with the first byte of the body, or it begins where
-- the one before it ends, which wasn't the last (RFC 7959 section 2.3): each brings this block of
-- the body, or all of it.
abbrev pub IsInSeries
    : List Written → (ℕ → ℕ) → (ℕ → Option Block) → CoapRequest → ℕ → Type 0
IsInSeries h owner block q i =
    (((j : ℕ) → IsSendingFor h owner (owner i) j → i ≤ j) × (offset_in (block i) ≡ 0))
    ⊎ ((j : ℕ) × IsSendingFor h owner (owner i) j × (j < i)
    × ((k : ℕ) → IsSendingFor h owner (owner i) k → k < i → k ≤ j)
    × (offset_in (block j) + length (carried_by q.method (block j) q.body) ≡ offset_in (block i))
    × (offset_in (block i) < length q.body))

-- A block has one of seven sizes, and says whether more of the body follows it (RFC 7959 section
-- 2.2).
abbrev pub SaysMore : Option Block → List ℕ → Type 0
SaysMore None body = ⊤
SaysMore (Some b) body =
    (b.szx < 7) × (b.more ≡ nat_lt (offset_in (Some b) + size_of b.szx) (length body))

-- So what was asked in the entry o may be asked: for that alone; or to be told of changes too, where
-- the rules of the ask say so (RFC 7641 section 3.1); or whether what was stored for it then is
-- valid still, by the ETag of that (RFC 7252 section 5.10.6.2).
abbrev pub MayAsk : List Written → ℕ → CoapRequest → Manner → Type 0
MayAsk h o q Plainly = ⊤
MayAsk h o q Observing =
    (c : ℕ) × (t : ℕ) × (it : IsAsked h o c t (Requests q)) × (may_observe it.rules q ≡ true)
MayAsk h o q (Validating tag) =
    (s : Stored) × WasStored h o q s × (s.response.etag ≡ Some tag)

-- The entry i first sent the message for what was begun in another one and was open then: for what
-- that asks for, or a block of it. What is sent for a write is that write, or its body in blocks,
-- each one once.
pub record IsSentAsSaid
    (h : List Written) (owner : ℕ → ℕ) (block : ℕ → Option Block) (i : ℕ) (m : Content)
    : Type 0 where
  pub request : CoapRequest
  pub pending : IsOpen h i (owner i) request
  pub part : Option Block
  pub sent_for : IsSentFor h (owner i) request part i m
  pub manner : MayAsk h (owner i) request sent_for.asks.0
  pub series : request.method ≢ 1
      → IsSentFor h (owner i) request (block i) i m × IsInSeries h owner block request i
      × SaysMore (block i) request.body

-- The ask k can be answered by what is stored, or can wait for what is asked for another.
abbrev pub CanBeSpared : List Written → ℕ → ℕ → CoapRequest → Type 0
CanBeSpared h k t q = ((js : List ℕ) × IsAtHand h k t q js) ⊎ ((o : ℕ) × CanWaitFor h k o q)

-- For each message that was first sent a table says for which ask that was, and with which block.
-- What is sent for an ask goes out after a response to what was sent for it before; and nothing is
-- for one that can be spared.
pub record AreSentFor (h : List Written) : Type 0 where
  pub owner : ℕ → ℕ
  pub block : ℕ → Option Block
  pub each : (i t : ℕ) (p : Peer) (m : Content) → IsFirstSending h i t p m
      → IsSentAsSaid h owner block i m
  pub replied : (i j s t : ℕ) (p r : Peer) (m n : Content) → IsFirstSending h i s p m
      → IsFirstSending h j t r n → owner i ≡ owner j → i < j
      → (k : ℕ) × (x : Content) × (k < j) × IsResponse h p i m k x
  pub spared : (k c t i s : ℕ) (p : Peer) (m : Content) (q : CoapRequest)
      → IsAsked h k c t (Requests q) → CanBeSpared h k t q → IsFirstSending h i s p m
      → owner i ≢ k

-- The same bytes were first sent to the same endpoint in an entry before.
abbrev pub IsCopy : List Written → ℕ → Peer → List ℕ → Type 0
IsCopy h i p bytes =
    (j : ℕ) × (t : ℕ) × (timeout : ℕ) × (j < i) × IsEntry h j t (Sends p bytes (Some timeout))

-- The bytes are an empty ACK or RST to the sender of what was heard in the entry before, with its
-- ID (RFC 7252 section 4.2).
pub record IsConfirmation (h : List Written) (i : ℕ) (p : Peer) (bytes : List ℕ) : Type 0 where
  pub kind : MsgType
  pub mid : ℕ
  pub ack_or_rst : (kind ≡ Ack) ⊎ (kind ≡ Rst)
  pub spelled : Spells (empty kind mid) bytes
  pub heard : ℕ
  pub just_before : heard + 1 ≡ i
  pub moment : ℕ
  pub datagram : List ℕ
  pub stands : IsEntry h heard moment (Hears p datagram)
  pub id : (m : Content) → Spells m datagram → m.mid ≡ mid

-- What is sent with a timeout is a message; and all else is a copy of one, or a confirmation.
abbrev pub IsAccounted : List Written → ℕ → Peer → List ℕ → Option ℕ → Type 0
IsAccounted h i p bytes (Some timeout) = (m : Content) × Spells m bytes
IsAccounted h i p bytes None = IsCopy h i p bytes ⊎ IsConfirmation h i p bytes

-- The bytes, which were first sent in the entry i, were sent again in these entries and in no
-- others: four times at most (MAX_RETRANSMIT), and each time when the timeout was over.
pub record IsSentAgain
    (h : List Written) (p : Peer) (bytes : List ℕ) (timeout i t : ℕ) : Type 0 where
  pub again : List ℕ
  pub last : ℕ
  pub few : length again ≤ MAX_RETRANSMIT
  pub due : AreCopies h p bytes timeout i t again last
  pub all : (j s : ℕ) → IsEntry h j s (Sends p bytes None) → Contains again j

-- Before the entry n a tick found the timeout over after the fourth time.
pub record WasGivenUp (h : List Written) (p : Peer) (i : ℕ) (sent : Content) (n : ℕ)
    : Type 0 where
  pub moment : ℕ
  pub first : IsFirstSending h i moment p sent
  pub again : List ℕ
  pub last : ℕ
  pub four : length again ≡ MAX_RETRANSMIT
  pub due : AreCopies h p first.bytes first.timeout i moment again last
  pub tick : ℕ
  pub ticked : ℕ
  pub before : tick < n
  pub passes : IsEntry h tick ticked Passes
  pub over : last + first.timeout * 2 ^ MAX_RETRANSMIT ≤ ticked

-- Before the entry n the message was no longer on its way: an empty ACK or RST with its ID came, or
-- a response to it, or it was given up (RFC 7252 section 4.2).
pub data IsOver (h : List Written) (p : Peer) (i : ℕ) (sent : Content) (n : ℕ) : Type 0 where
  confirmed : (j t : ℕ) → i < j → j < n → IsHeard h p j t (empty Ack sent.mid)
      → IsOver h p i sent n
  rejected : (j t : ℕ) → i < j → j < n → IsHeard h p j t (empty Rst sent.mid)
      → IsOver h p i sent n
  answered : (j : ℕ) (m : Content) → j < n → IsResponse h p i sent j m → IsOver h p i sent n
  given_up : WasGivenUp h p i sent n → IsOver h p i sent n

-- The entry j heard a response to a message that was sent to the endpoint after the entry n.
abbrev pub AnswersLater : List Written → ℕ → Peer → ℕ → Type 0
AnswersLater h n p j =
    (i : ℕ) × (t : ℕ) × (sent : Content) × (m : Content) × (n < i)
    × IsFirstSending h i t p sent × IsResponse h p i sent j m

pub record AreInOrder (h : List Written) : Type 0 where
  -- each message goes out for an ask that is pending, or for a notification of which more is to be
  -- asked for; those for a write are that, once, as one
  -- message or in blocks without a gap
  pub sent : AreSentFor h
  -- and nothing goes out but such messages, their copies, and confirmations
  pub accounted : (i t : ℕ) (p : Peer) (bytes : List ℕ) (timeout : Option ℕ)
      → IsEntry h i t (Sends p bytes timeout) → IsAccounted h i p bytes timeout
  -- to an endpoint one message is on its way at a time (NSTART, RFC 7252 section 4.7)
  pub in_turn : (i j s t : ℕ) (p : Peer) (m n : Content) → IsFirstSending h i s p m
      → IsFirstSending h j t p n → i < j → IsOver h p i m j
  -- and no ID is used again within 494 seconds
  pub ids : (i j s t : ℕ) (p : Peer) (m n : Content) → WasFirstSent h i s p m
      → WasFirstSent h j t p n → m.mid ≡ n.mid → i < j → s + MESSAGE_ID_LIFETIME ≤ t
  -- a message is sent five times at most, and no copy before it is due
  pub copies : (i t timeout : ℕ) (p : Peer) (bytes : List ℕ)
      → IsEntry h i t (Sends p bytes (Some timeout)) → IsSentAgain h p bytes timeout i t
  -- a reply is part of the answer to one ask, or to GETs for the same, live or kept
  pub replies : (i j s t c d k o n : ℕ) (g e : Grounds) → IsEntry h i s (Answers c k g)
      → IsEntry h j t (Answers d o e) → Contains (replies_in g) n → Contains (replies_in e) n
      → (k ≡ o) ⊎ AreSameGets h k o
  -- no answer to a GET, live or kept, rests on a message from before the answer to a write to the
  -- resource, where that answer came before the ask
  pub current : (n t c k s w j : ℕ) (g : Grounds) (q : CoapRequest)
      → IsAsked h k c s (Requests q) → q.method ≡ 1 → IsEntry h n t (Answers c k g)
      → Contains (replies_in g) j → IsWriteAnswer h q w → w < k → AnswersLater h w q.peer j

-- So it is in every journal that stands.
abbrev pub KeepsOrder : Type 0
KeepsOrder = (h : List Written) → Stands h → AreInOrder h
