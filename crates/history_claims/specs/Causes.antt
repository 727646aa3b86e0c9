-- Which entry the cause of an error names: said of a journal's entries alone.
use Rattle.std.specs.Prelude.{◌≡◌, ◌≢◌, ◌⊎◌, ℕ, ◌+◌, ◌*◌, ◌^◌, ◌<◌, ◌≤◌, true, List, [], ◌∷◌, ◌++◌, length, Option, None, ⊤}
use Rattle.std.specs.List.{Contains}
use Rattle.limits.specs.declared.TheConstants.{MAX_EXCHANGES, MAX_MESSAGE_IDS, MAX_RETRANSMIT, MAX_TRANSMIT_WAIT, MAX_WAITING, MESSAGE_ID_LIFETIME}
use Rattle.coap_codec.specs.declared.message.MsgType.TheVariants.{Ack, Rst}
use Rattle.coap_codec.specs.declared.block.Block.{Block}
use Rattle.coap_codec.specs.Spelling.{Content}
use Rattle.blockwise.specs.Uploads.{next_block}
use Rattle.uri_map.specs.declared.peer.Peer.{Peer}
use Rattle.ask_model.specs.declared.cause.Cause.{Cause}
use Rattle.ask_model.specs.declared.cause.Cause.TheVariants as C
use Rattle.ask_model.specs.Requests.{CoapRequest, Requests, Refuses}
use Rattle.ask_model.specs.Sharing.{asks_same}
use Rattle.journal_book.specs.Entries.{Grounds, Fault, Sends, Hears, Passes, Answers, Shuts, Written}
use Rattle.history_laws.specs.Confirmations.{empty}
use Rattle.history_laws.specs.Progress.{Reply, NotUnderstood, Progress, Fetches, Gives, Ends, first_progress, step, progress, ended_by, block_after}
use Rattle.history_laws.specs.Justified.{Stands}
use Rattle.history_claims.specs.Headline.{IsEntry, IsAsked, IsFirstSending, WasFirstSent, IsSentFor, IsHeard, IsUnanswered, IsHeardFor, IsPending, IsOpen, IsNotified, IsSameGet, IsWrite, IsShared}

-- After the entry s nothing was sent for the ask k, nor for what it joined, if it did, which was
-- begun in the entry n: what asks the same, or is for a block of it, was sent for what was begun in
-- another one, and was open then.
abbrev pub IsUnsent : List Written → ℕ → ℕ → ℕ → CoapRequest → Type 0
IsUnsent h s k n q =
    (i : ℕ) (m : Content) (block : Option Block) → s < i → IsSentFor h n q block i m
    → (a : ℕ) × (r : CoapRequest) × (other : Option Block)
    × (a ≢ k) × (a ≢ n) × IsOpen h i a r × IsSentFor h a r other i m

-- The reply is the one to what was to be asked for the request at this point (`next_message`).
abbrev pub IsReplyFor
    : List Written → ℕ → CoapRequest → Option Block → Reply → Type 0
IsReplyFor h k q block r =
    (it : IsHeardFor h k q block r.number r.message) × (it.sending ≡ r.sending)

abbrev pub IsNextReply : List Written → ℕ → CoapRequest → Progress → Reply → Type 0
IsNextReply h k q (Fetches restarts pieces got) r = IsReplyFor h k q (block_after pieces) r
IsNextReply h k q (Gives upload got) r = IsReplyFor h k q (next_block upload) r
IsNextReply h k q (Ends how) r = ⊥

-- So are these, each one at the point that those before it led to: it came to a message that was
-- sent after the one before was heard.
abbrev pub AreRepliesTo : List Written → ℕ → CoapRequest → Progress → List Reply → Type 0
AreRepliesTo h k q point [] = ⊤
AreRepliesTo h k q point (r ∷ rs) =
    IsNextReply h k q point r × AreRepliesTo h r.number q (step point r) rs

-- So are these, of which the first may be a notification of what is observed for the ask o, which
-- is for the same.
abbrev pub AreRepliesOn : List Written → ℕ → CoapRequest → List Reply → Type 0
AreRepliesOn h o q [] = ⊥
AreRepliesOn h o q (r ∷ rs) =
    ((s : CoapRequest) × IsSameGet q s × IsNotified h o s r.number r.message)
    × AreRepliesTo h r.number q (step (first_progress q) r) rs

abbrev pub AreRepliesFor : List Written → ℕ → CoapRequest → List Reply → Type 0
AreRepliesFor h o q rs = AreRepliesTo h o q (first_progress q) rs ⊎ AreRepliesOn h o q rs

-- These are the replies for the ask o so far, and there is more to ask for.
pub record WentOn
    (h : List Written) (o : ℕ) (q : CoapRequest) (others : List Reply) (last : Reply) : Type 0 where
  pub heard : AreRepliesFor h o q (others ++ last ∷ [])
  pub going : ended_by true (progress q (others ++ last ∷ [])) ≡ None

-- The bytes that were sent to the endpoint in the entry i, at the moment t, were sent again in
-- these entries, the newest first, the last time at this moment; each time the timeout was over,
-- which doubles (RFC 7252 section 4.2).
abbrev pub last_of : ℕ → List ℕ → ℕ
last_of i [] = i
last_of i (j ∷ js) = j

abbrev pub AreCopies : List Written → Peer → List ℕ → ℕ → ℕ → ℕ → List ℕ → ℕ → Type 0
AreCopies h p bytes timeout i t [] last = last ≡ t
AreCopies h p bytes timeout i t (j ∷ js) last =
    IsEntry h j last (Sends p bytes None) × (last_of i js < j)
    × ((s : ℕ) × (s + timeout * 2 ^ length js ≤ last) × AreCopies h p bytes timeout i t js s)

-- Before the entry n nothing ended the sending of the message: no empty ACK or RST with its ID, and
-- no response (RFC 7252 sections 4.2, 5.2).
pub record IsUnsettled
    (h : List Written) (p : Peer) (i : ℕ) (sent : Content) (n : ℕ) : Type 0 where
  pub unconfirmed : (j t : ℕ) → i < j → j < n → IsHeard h p j t (empty Ack sent.mid) → ⊥
  pub unrejected : (j t : ℕ) → i < j → j < n → IsHeard h p j t (empty Rst sent.mid) → ⊥
  pub unanswered : IsUnanswered h p i sent n

-- The message of the entry i was given up after the entry k, by this moment: it was sent again four
-- times (MAX_RETRANSMIT), and a tick found the timeout after the last over; till then nothing
-- settled it.
pub record IsGivenUp (h : List Written) (k t : ℕ) (p : Peer) (i : ℕ) (sent : Content) : Type 0 where
  pub moment : ℕ
  pub first : IsFirstSending h i moment p sent
  pub copies : List ℕ
  pub last : ℕ
  pub four : length copies ≡ MAX_RETRANSMIT
  pub again : AreCopies h p first.bytes first.timeout i moment copies last
  pub tick : ℕ
  pub ticked : ℕ
  pub after : k < tick
  pub passes : IsEntry h tick ticked Passes
  pub due : last + first.timeout * 2 ^ MAX_RETRANSMIT ≤ ticked
  pub by : ticked ≤ t
  pub silent : IsUnsettled h p i sent tick

-- The cause of an own answer, in the entry a and at the moment t, to the ask k of the connection c,
-- and the entry n that it names.

-- at least so many entries of a kind, each another one
abbrev pub AreApart : List ℕ → Type 0
AreApart [] = ⊤
AreApart (n ∷ ns) = (Contains ns n → ⊥) × AreApart ns

pub record AreMany (least : ℕ) (IsOne : ℕ → Type 0) : Type 0 where
  pub ones : List ℕ
  pub many : least ≤ length ones
  pub apart : AreApart ones
  pub each : (n : ℕ) → Contains ones n → IsOne n

-- If q, which was begun in the entry a, and r, begun in the entry b, are one GET, a write to the
-- resource came between, so that the later didn't join the earlier: it was asked before the later,
-- and wasn't answered before the earlier.
abbrev pub AreUnshared : List Written → ℕ → ℕ → CoapRequest → CoapRequest → Type 0
AreUnshared h a b q r =
    asks_same r q ≡ true
    → (w : ℕ) × IsWrite h r w × (w < b)
    × ((n u e : ℕ) (g : Grounds) → n < a → IsEntry h n u (Answers e w g) → ⊥)

-- So many such requests are open before the ask k, of which none joined another.
pub record AreManyPending
    (h : List Written) (k least : ℕ) (IsSuch : CoapRequest → Type 0) : Type 0 where
  pub asks : AreMany least (λ (n : ℕ). (q : CoapRequest) × IsSuch q × IsOpen h k n q)
  pub unshared : (a b : ℕ) (first : Contains asks.ones a) (second : Contains asks.ones b) → a < b
      → AreUnshared h a b (asks.each a first).0 (asks.each b second).0

-- Before the ask k, a message was first sent to the endpoint in the entry i, whose ID may not be
-- used again at this moment (RFC 7252 section 4.4).
pub record IsRecent (h : List Written) (k t : ℕ) (p : Peer) (i : ℕ) : Type 0 where
  pub before : i < k
  pub moment : ℕ
  pub message : Content
  pub first : WasFirstSent h i moment p message
  pub recent : t < moment + MESSAGE_ID_LIFETIME

-- There is no room for one request more to this endpoint: 256 are pending, or 64 to it, or there is
-- no message ID for it besides those that are in use or wait to be used.
pub data IsCrowded (h : List Written) (k t : ℕ) (p : Peer) : Type 0 where
  exchanges : AreManyPending h k MAX_EXCHANGES (λ (q : CoapRequest). ⊤) → IsCrowded h k t p
  waiting : AreManyPending h k MAX_WAITING (λ (q : CoapRequest). q.peer ≡ p) → IsCrowded h k t p
  ids : (used waits : ℕ) → MAX_MESSAGE_IDS ≤ used + waits → AreMany used (IsRecent h k t p)
      → AreManyPending h k waits (λ (q : CoapRequest). q.peer ≡ p) → IsCrowded h k t p

-- The ask asks for something, there was no room for it, and nothing was sent for it. Nor might it
-- have joined one that was pending, whose connection wasn't shut: a write came between.
pub record IsTurnedAway (h : List Written) (c k : ℕ) : Type 0 where
  pub moment : ℕ
  pub request : CoapRequest
  pub asked : IsAsked h k c moment (Requests request)
  pub alone : (o : ℕ) (p : IsPending h k o request)
      → ((m s : ℕ) → m < k → IsEntry h m s (Shuts p.conn) → ⊥) → AreUnshared h o k request request
  pub crowded : IsCrowded h k moment request.peer
  pub unsent : IsUnsent h k k k request

-- There is no place for one message more, for a request that is pending itself: 64 others to its
-- endpoint are, or there is no message ID for it besides those that are in use or wait to be used.
pub data IsFull (h : List Written) (k t : ℕ) (p : Peer) : Type 0 where
  queue : AreManyPending h k (MAX_WAITING + 1) (λ (q : CoapRequest). q.peer ≡ p) → IsFull h k t p
  mids : (used waits : ℕ) → MAX_MESSAGE_IDS ≤ used + waits → AreMany used (IsRecent h k t p)
      → AreManyPending h k (waits + 1) (λ (q : CoapRequest). q.peer ≡ p) → IsFull h k t p

-- Replies came to the messages for the ask, the last of them after it, and there was more to ask
-- for; but then there was no place for the next message.
pub record IsCutOff (h : List Written) (a c k : ℕ) : Type 0 where
  pub request : CoapRequest
  pub opening : ℕ
  pub since : ℕ
  pub entry : ℕ
  pub shared : IsShared h c k request entry opening since
  pub others : List Reply
  pub last : Reply
  pub went : WentOn h opening request others last
  pub live : k < last.number
  pub before : last.number < a
  pub moment : ℕ
  pub bytes : List ℕ
  pub heard : IsEntry h last.number moment (Hears request.peer bytes)
  pub full : IsFull h last.number moment request.peer
  pub unsent : IsUnsent h last.number k entry request

-- The latest message for the ask is named: a reply came to it before the answer, after which there
-- was more to ask for, and nothing was sent for that.
pub record IsRepliedTo (h : List Written) (a k e o : ℕ) (q : CoapRequest) (n : ℕ) : Type 0 where
  pub others : List Reply
  pub last : Reply
  pub names : last.sending ≡ n
  pub went : WentOn h o q others last
  pub before : last.number < a
  pub unsent : IsUnsent h last.number k e q

-- The message for the ask is named, to which no reply came before the answer; or the latest one; or
-- the ask, where nothing was sent. What it shares was asked 93 seconds before or more
-- (MAX_TRANSMIT_WAIT, RFC 7252 section 4.8.2), or the message was given up.
pub record IsTimedOut (h : List Written) (a t c k n : ℕ) : Type 0 where
  pub request : CoapRequest
  pub opening : ℕ
  pub since : ℕ
  pub entry : ℕ
  pub shared : IsShared h c k request entry opening since
  pub names : ((m : Content) × (block : Option Block)
      × IsSentFor h entry request block n m × IsUnanswered h request.peer n m a)
      ⊎ (IsRepliedTo h a k entry opening request n ⊎ ((n ≡ k) × IsUnsent h entry k entry request))
  pub over : (since + MAX_TRANSMIT_WAIT ≤ t)
      ⊎ ((m : Content) × (block : Option Block)
      × IsSentFor h entry request block n m × IsGivenUp h k t request.peer n m)

-- The entry heard after the ask, from the endpoint, an empty RST with the ID of a message for it,
-- before anything else ended its sending.
pub record IsReset (h : List Written) (c k n : ℕ) : Type 0 where
  pub request : CoapRequest
  pub opening : ℕ
  pub since : ℕ
  pub entry : ℕ
  pub shared : IsShared h c k request entry opening since
  pub live : k < n
  pub sending : ℕ
  pub sent : Content
  pub block : Option Block
  pub sent_for : IsSentFor h entry request block sending sent
  pub after : sending < n
  pub unsettled : IsUnsettled h request.peer sending sent n
  pub reset : ℕ
  pub heard : IsHeard h request.peer n reset (empty Rst sent.mid)

-- The entry heard after the ask the last reply to the messages for it, and with that they can't
-- become a whole response.
pub record IsNotUnderstood (h : List Written) (c k n : ℕ) : Type 0 where
  pub request : CoapRequest
  pub opening : ℕ
  pub since : ℕ
  pub entry : ℕ
  pub shared : IsShared h c k request entry opening since
  pub live : k < n
  pub others : List Reply
  pub last : Reply
  pub number : last.number ≡ n
  pub heard : AreRepliesFor h opening request (others ++ last ∷ [])
  pub fails : progress request (others ++ last ∷ []) ≡ Ends NotUnderstood

-- The ask means this refusal.
pub record IsRefused (h : List Written) (c k : ℕ) (cause : Cause) : Type 0 where
  pub moment : ℕ
  pub status : ℕ
  pub asked : IsAsked h k c moment (Refuses cause status)

abbrev pub IsCausedBy : List Written → ℕ → ℕ → ℕ → ℕ → Cause → ℕ → Type 0
IsCausedBy h a t c k C.Busy n = (n ≡ k) × (IsTurnedAway h c k ⊎ IsCutOff h a c k)
IsCausedBy h a t c k C.Timeout n = IsTimedOut h a t c k n
IsCausedBy h a t c k C.Reset n = IsReset h c k n
IsCausedBy h a t c k C.NotUnderstood n = IsNotUnderstood h c k n
IsCausedBy h a t c k cause n = (n ≡ k) × IsRefused h c k cause

-- Each own error of the journal names its cause, which lies before it.
abbrev pub AreCaused : List Written → Type 0
AreCaused h =
    (n t c k : ℕ) (cause : Cause) (j : ℕ)
    → IsEntry h n t (Answers c k (Fault cause j)) → (j < n) × IsCausedBy h n t c k cause j

-- So it is in every journal that stands.
abbrev pub NamesCause : Type 0
NamesCause = (h : List Written) → Stands h → AreCaused h
