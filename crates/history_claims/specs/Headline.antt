-- What an answer rests on: said of a journal's entries alone, which lie oldest first and go by
-- their number from 0. A journal may begin with copies of an older one's entries: an answer that
-- was kept may rest on such, and tokens, message IDs and repeats are told by them too.
use Rattle.std.specs.Prelude.{◌≡◌, ◌≢◌, ◌⊎◌, ℕ, ◌+◌, ◌<◌, ◌≤◌, List, [], ◌∷◌, slice_get, Option, Some, ⊤, None, true, false}
use Rattle.blockwise.specs.Reading.{block_in}
use Rattle.std.specs.List.{Contains}
use Rattle.limits.specs.declared.TheConstants.{EXCHANGE_LIFETIME, MAX_TRANSMIT_WAIT}
use Rattle.coap_codec.specs.declared.message.MsgType.{MsgType}
use Rattle.coap_codec.specs.declared.message.MsgType.TheVariants.{Con, Non, Ack, Rst}
use Rattle.coap_codec.specs.declared.block.Block.{Block}
use Rattle.coap_codec.specs.Spelling.{Content, Spells}
use Rattle.uri_map.specs.declared.peer.Peer.{Peer}
use Rattle.ask_model.specs.declared.cause.Cause.TheVariants as C
use Rattle.ask_model.specs.Requests.{CoapRequest, Came, Sense, Requests, Manner, Observing, asking}
use Rattle.ask_model.specs.Observing.{may_observe}
use Rattle.ask_model.specs.Views.{Rules}
use Rattle.journal_book.specs.Entries.{Grounds, Fault, Done, Sent, Heard, done_of, Deed, Asks, Sends, Hears, Passes, Answers, Written}
use Rattle.history_laws.specs.Responses.{Response, whole_of}
use Rattle.history_laws.specs.Progress.{Point, first_point, block_for, point_after}
use Rattle.ask_model.specs.Sharing.{asks_same}
use Rattle.history_laws.specs.Confirmations.{empty}
use Rattle.history_laws.specs.Observing.{number_or_zero, version}
use Rattle.observe_share.specs.Newer.{newer}

-- The entry with this number was made at this moment, and says this.
abbrev pub IsEntry : List Written → ℕ → ℕ → Deed → Type 0
IsEntry h n t d = slice_get h n ≡ Some (record { moment = t; deed = d })

-- At this moment this was done: by the entry with this number, or by that which it is a copy of.
pub record WasDone (h : List Written) (n t : ℕ) (done : Done) : Type 0 where
  pub deed : Deed
  pub stands : IsEntry h n t deed
  pub says : done_of deed ≡ Some done

-- The connection asked, in this entry and at this moment, what has this sense: a CoAP request, or a
-- refusal (RFC 8075 section 5).
pub record IsAsked (h : List Written) (k c t : ℕ) (sense : Sense) : Type 0 where
  pub came : Came
  pub rules : Rules
  pub stands : IsEntry h k t (Asks c (record { came = came; sense = sense; rules = rules }))

-- The entry sent this message to this endpoint, for the first time: only then it bears a timeout.
pub record IsFirstSending (h : List Written) (i t : ℕ) (p : Peer) (m : Content) : Type 0 where
  pub bytes : List ℕ
  pub timeout : ℕ
  pub stands : IsEntry h i t (Sends p bytes (Some timeout))
  pub spelled : Spells m bytes

-- The entry did so, or is a copy of one that did.
pub record WasFirstSent (h : List Written) (i t : ℕ) (p : Peer) (m : Content) : Type 0 where
  pub bytes : List ℕ
  pub timeout : ℕ
  pub done : WasDone h i t (Sent p bytes (Some timeout))
  pub spelled : Spells m bytes

-- The message asks just what the request means: its method, options and body (RFC 7252 section 5);
-- or, where a block is named, for this block of its representation, or with this one of its body
-- (RFC 7959 sections 2.4 and 2.3). Where none is named, it may ask to be told of changes too (RFC
-- 7641 section 3.1), or whether what has an ETag is valid still (RFC 7252 section 5.10.6.2).
abbrev pub AsksFor : CoapRequest → Option Block → Content → Type 0
AsksFor q block m = (manner : Manner) × (m ≡ asking manner q block m.mid m.token)

-- After the entry k, as the ask or a reply, the entry i first sent this message for the request q,
-- or for the block of it, to the endpoint of q, under a token that was issued for it: no other
-- message bears it (RFC 7252 section 5.3.1).
pub record IsSentFor
    (h : List Written) (k : ℕ) (q : CoapRequest) (block : Option Block) (i : ℕ) (m : Content)
    : Type 0 where
  pub after : k < i
  pub moment : ℕ
  pub first : IsFirstSending h i moment q.peer m
  pub asks : AsksFor q block m
  pub issued : (j s : ℕ) (p : Peer) (n : Content) → WasFirstSent h j s p n
      → n.token ≡ m.token → j ≡ i

-- The entry heard this message from the endpoint, at this moment.
pub record IsHeard (h : List Written) (p : Peer) (j t : ℕ) (m : Content) : Type 0 where
  pub bytes : List ℕ
  pub stands : IsEntry h j t (Hears p bytes)
  pub spelled : Spells m bytes

-- The entry did so, or is a copy of one that did.
pub record WasHeard (h : List Written) (p : Peer) (j t : ℕ) (m : Content) : Type 0 where
  pub bytes : List ℕ
  pub done : WasDone h j t (Heard p bytes)
  pub spelled : Spells m bytes

-- A CON or NON may come again.
abbrev pub MayRepeat : MsgType → Type 0
MayRepeat Con = ⊤
MayRepeat Non = ⊤
MayRepeat _ = ⊥

-- The two entries heard such a message each, from the endpoint and with one ID, the second less
-- than 247 seconds after the first (EXCHANGE_LIFETIME, RFC 7252 section 4.8.2).
pub record IsAlike (h : List Written) (p : Peer) (i j : ℕ) : Type 0 where
  pub earlier : i < j
  pub moment : ℕ
  pub first : Content
  pub heard_first : WasHeard h p i moment first
  pub later : ℕ
  pub second : Content
  pub heard_second : WasHeard h p j later second
  pub kinds : MayRepeat first.kind × MayRepeat second.kind
  pub id : first.mid ≡ second.mid
  pub recent : later < moment + EXCHANGE_LIFETIME

-- Then the second repeats the first, if that is new, which is what repeats no other (RFC 7252
-- section 4.5).
mutual
  pub data IsNew (h : List Written) (p : Peer) : ℕ → Type 0 where
    anew : {j : ℕ} → ((i : ℕ) → IsAlike h p i j → IsRepeat h p i) → IsNew h p j

  pub data IsRepeat (h : List Written) (p : Peer) : ℕ → Type 0 where
    again : {j : ℕ} → (i : ℕ) → IsAlike h p i j → IsNew h p i → IsRepeat h p j

-- A response comes in a CON or NON of its own, or in the ACK of the request, which has its message
-- ID (RFC 7252 sections 5.2, 5.3.2).
abbrev pub BringsResponse : MsgType → ℕ → ℕ → Type 0
BringsResponse Con mid sent = ⊤
BringsResponse Non mid sent = ⊤
BringsResponse Ack mid sent = mid ≡ sent
BringsResponse Rst mid sent = ⊥

-- The entry j heard this response to the message of the entry i: after it, from its endpoint, under
-- its token (RFC 7252 section 5.3.2).
pub record IsResponse
    (h : List Written) (p : Peer) (i : ℕ) (sent : Content) (j : ℕ) (m : Content) : Type 0 where
  pub after : i < j
  pub moment : ℕ
  pub heard : IsHeard h p j moment m
  pub response : 32 ≤ m.code
  pub token : m.token ≡ sent.token
  pub kind : BringsResponse m.kind m.mid sent.mid

-- Before the entry n none came to it but repeats.
abbrev pub IsUnanswered : List Written → Peer → ℕ → Content → ℕ → Type 0
IsUnanswered h p i sent n =
    (j : ℕ) (m : Content) → j < n → IsResponse h p i sent j m → IsRepeat h p j

-- The entry j heard the reply to a message that was sent for the request q, or for the block of it,
-- after the entry k: the first response that is no repeat.
pub record IsHeardFor
    (h : List Written) (k : ℕ) (q : CoapRequest) (block : Option Block) (j : ℕ) (m : Content)
    : Type 0 where
  pub sending : ℕ
  pub sent : Content
  pub sent_for : IsSentFor h k q block sending sent
  pub response : IsResponse h q.peer sending sent j m
  pub new : IsNew h q.peer j
  pub first : IsUnanswered h q.peer sending sent j

-- No tick between these entries found 93 seconds over since then (MAX_TRANSMIT_WAIT, RFC 7252
-- section 4.8.2).
abbrev pub IsInTime : List Written → ℕ → ℕ → ℕ → Type 0
IsInTime h since k n =
    (i t : ℕ) → k < i → i < n → IsEntry h i t Passes → t < since + MAX_TRANSMIT_WAIT

-- Before the ask k, the ask o asked for this. It wasn't answered, and no tick found it 93 seconds
-- old: so long it counts, though its connection may be closed.
pub record IsPending (h : List Written) (k o : ℕ) (q : CoapRequest) : Type 0 where
  pub before : o < k
  pub conn : ℕ
  pub moment : ℕ
  pub asked : IsAsked h o conn moment (Requests q)
  pub unanswered : (n t c : ℕ) (g : Grounds) → n < k → IsEntry h n t (Answers c o g) → ⊥
  pub in_time : IsInTime h moment o k

-- The requests are GETs (1) to one endpoint, which differ by message ID and token alone: one
-- response may answer both (RFC 7252 section 5.6).
abbrev pub IsSameGet : CoapRequest → CoapRequest → Type 0
IsSameGet q r =
    (q.method ≡ 1) × (q.peer ≡ r.peer)
    × ((manner : Manner) (mid : ℕ) (token : List ℕ)
    → asking manner q None mid token ≡ asking manner r None mid token)

-- The ask w is for the resource of q, and is no GET.
pub record IsWrite (h : List Written) (q : CoapRequest) (w : ℕ) : Type 0 where
  pub conn : ℕ
  pub moment : ℕ
  pub request : CoapRequest
  pub asked : IsAsked h w conn moment (Requests request)
  pub changes : request.method ≢ 1
  pub place : (request.peer ≡ q.peer) × (request.target.path ≡ q.target.path)

-- A reply came before the entry n, to what was sent for the ask, or to a part of it.
abbrev pub WasReplied : List Written → ℕ → ℕ → CoapRequest → Type 0
WasReplied h n k q =
    (block : Option Block) × (j : ℕ) × (m : Content) × (j < n) × IsHeardFor h k q block j m

-- The entry n answers such an ask: not that there was no room for it, unless the device has a part
-- of it. What was heard of the resource before may be out of date.
pub record IsWriteAnswer (h : List Written) (q : CoapRequest) (n : ℕ) : Type 0 where
  pub ask : ℕ
  pub write : IsWrite h q ask
  pub moment : ℕ
  pub grounds : Grounds
  pub answers : IsEntry h n moment (Answers write.conn ask grounds)
  pub had_room : (grounds ≢ Fault C.Busy ask) ⊎ WasReplied h n ask write.request

-- The resource of q is observed for the ask o (RFC 7641 section 3.1): it may be by the rules of
-- that, its first message asked to be told of changes, and the entry n heard the reply.
pub record IsObserved (h : List Written) (o : ℕ) (q : CoapRequest) (n : ℕ) : Type 0 where
  pub conn : ℕ
  pub moment : ℕ
  pub asked : IsAsked h o conn moment (Requests q)
  pub may : may_observe asked.rules q ≡ true
  pub reply : Content
  pub heard : IsHeardFor h o q None n reply
  pub observes : heard.sent_for.asks.0 ≡ Observing

-- The entry j heard a notification of it (RFC 7641 section 4.2): after that reply, one more
-- response to that message, in a CON or NON that is no repeat.
pub record IsNotified (h : List Written) (o : ℕ) (q : CoapRequest) (j : ℕ)
    (m : Content) : Type 0 where
  pub registered : ℕ
  pub observed : IsObserved h o q registered
  pub later : registered < j
  pub response : IsResponse h q.peer observed.heard.sending observed.heard.sent j m
  pub kind : MayRepeat m.kind
  pub new : IsNew h q.peer j

-- Before the entry k, such a notification had come in the entry n, with the first piece of a
-- representation: after it there is more to ask for (RFC 7959 section 2.6). No tick found that 93
-- seconds old: so long it counts, though nobody may wait for it.
pub record IsFetching (h : List Written) (k n o : ℕ) (q : CoapRequest) (since : ℕ) : Type 0 where
  pub before : n < k
  pub message : Content
  pub notified : IsNotified h o q n message
  pub moment : notified.response.moment ≡ since
  pub block : Block
  pub piece : block_in 23 message ≡ Some block
  pub more : block.more ≡ true
  pub in_time : IsInTime h since n k

-- What is asked for since the entry n, for q: by that ask, or by what a notification began there,
-- for the ask o by which the resource is observed.
abbrev pub IsOpen : List Written → ℕ → ℕ → CoapRequest → Type 0
IsOpen h k n q =
    IsPending h k n q ⊎ ((o : ℕ) × (since : ℕ) × IsFetching h k n o q since)

-- The ask k for q may join the ask o, which is pending: both are for the same, and no write to the
-- resource was answered between them.
pub record IsJoined (h : List Written) (k : ℕ) (q : CoapRequest) (o : ℕ) : Type 0 where
  pub request : CoapRequest
  pub pending : IsPending h k o request
  pub same : IsSameGet q request
  pub fresh : (n : ℕ) → IsWriteAnswer h q n → n < k → n < o

-- Or it may join what a notification began in the entry n, of what is observed for the ask o: that
-- is for the same, and no write to the resource was answered since that ask.
pub record IsJoinedTo
    (h : List Written) (k n : ℕ) (q : CoapRequest) (o since : ℕ) : Type 0 where
  pub request : CoapRequest
  pub fetching : IsFetching h k n o request since
  pub alike : IsSameGet q request
  pub fresh : (w : ℕ) → IsWriteAnswer h q w → w < k → w < o

-- In the entry k the connection asked for q, and what is sent for the ask o, since the entry n and
-- its moment, is sent for that too: it is that ask, or one that it may join, or what is observed
-- for that ask, and it may join what is fetched of that.
pub record IsShared (h : List Written) (c k : ℕ) (q : CoapRequest) (n o since : ℕ) : Type 0 where
  pub moment : ℕ
  pub asked : IsAsked h k c moment (Requests q)
  pub shares : ((n ≡ k) × (o ≡ k) × (since ≡ moment))
      ⊎ (((n ≡ o) × (j : IsJoined h k q o) × (since ≡ j.pending.moment))
      ⊎ IsJoinedTo h k n q o since)

-- The entries with these numbers heard these replies, one by one, from this point on: each to a
-- message that was sent after the one before was heard, and is for the block after those before.
abbrev pub AreHeardFor
    : List Written → ℕ → CoapRequest → Point → List ℕ → List Content → Type 0
AreHeardFor h k q point [] [] = ⊤
AreHeardFor h k q point (j ∷ js) (m ∷ ms) =
    IsHeardFor h k q (block_for point) j m × AreHeardFor h j q (point_after point m) js ms
AreHeardFor h k q point _ _ = ⊥

-- Or the first is a notification of what is observed for the ask o, which is for the same, and the
-- others were heard so.
abbrev pub AreHeardOn : List Written → ℕ → CoapRequest → List ℕ → List Content → Type 0
AreHeardOn h o q (j ∷ js) (m ∷ ms) =
    ((r : CoapRequest) × IsSameGet q r × IsNotified h o r j m)
    × AreHeardFor h j q (point_after (first_point q) m) js ms
AreHeardOn h o q js ms = ⊥

-- These replies begin with one that was heard at this moment.
abbrev pub IsHeardFirst : List Written → ℕ → List ℕ → Type 0
IsHeardFirst h t [] = ⊥
IsHeardFirst h t (j ∷ js) = (p : Peer) × (bytes : List ℕ) × IsEntry h j t (Hears p bytes)

-- The first of these is n.
abbrev pub BeginsAt : ℕ → List ℕ → Type 0
BeginsAt n [] = ⊥
BeginsAt n (j ∷ js) = n ≡ j

-- The answer in the entry n, to the ask k of its connection, rests on one whole response: on these
-- entries, which heard it, piece by piece, for that ask or for what it joined, before the answer
-- and before the latter was 93 seconds old. One of them was heard after the ask.
pub record RestsOn (h : List Written) (n c k : ℕ) (js : List ℕ) : Type 0 where
  pub request : CoapRequest
  pub entry : ℕ
  pub opening : ℕ
  pub since : ℕ
  pub shared : IsShared h c k request entry opening since
  pub messages : List Content
  pub heard : AreHeardFor h entry request (first_point request) js messages
      ⊎ (BeginsAt entry js × AreHeardOn h opening request js messages)
  pub before : (j : ℕ) → Contains js j → j < n
  pub live : (j : ℕ) × (k < j) × Contains js j
  pub in_time : IsInTime h since k n
  pub response : Response
  pub whole : whole_of request messages ≡ Some response

-- The proxy didn't reject what the entry j heard (RFC 7252 section 4.2): that would be the entry
-- after it.
abbrev pub IsUnrejected : List Written → Peer → ℕ → Content → Type 0
IsUnrejected h p j m =
    (t : ℕ) (bytes : List ℕ) → IsEntry h (j + 1) t (Sends p bytes None)
    → Spells (empty Rst m.mid) bytes → ⊥

-- The entry j heard a notification, which wasn't rejected: a response in a CON or NON that is no
-- repeat, after another one to the same message.
pub record IsNotice (h : List Written) (p : Peer) (j : ℕ) (m : Content) : Type 0 where
  pub sending : ℕ
  pub sent : Content
  pub moment : ℕ
  pub first : IsFirstSending h sending moment p sent
  pub earlier : ℕ
  pub reply : Content
  pub replied : IsResponse h p sending sent earlier reply
  pub new_then : IsNew h p earlier
  pub before : earlier < j
  pub response : IsResponse h p sending sent j m
  pub new : IsNew h p j
  pub kind : MayRepeat m.kind
  pub kept : IsUnrejected h p j m

-- The notification is no newer than another one that was heard before it for the same registration,
-- or than the reply that registered (RFC 7641 section 3.4).
pub record IsOlder
    (h : List Written) (o : ℕ) (q : CoapRequest) (j : ℕ) (m : Content) (n : IsNotified h o q j m)
    : Type 0 where
  pub other : ℕ
  pub reply : Content
  pub earlier : other < j
  pub response : IsResponse h q.peer n.observed.heard.sending n.observed.heard.sent other reply
  pub number : ℕ
  pub numbered : version m ≡ Some number
  pub older : newer
      (number_or_zero (version reply)) response.moment number n.response.moment ≡ false

-- Of what q reads nothing newer was heard since the first of these entries, and before the entry n:
-- each notification since is one of what some ask observes, and if it is of that, it is older.
abbrev pub IsNewest : List Written → List ℕ → ℕ → CoapRequest → Type 0
IsNewest h [] n q = ⊤
IsNewest h (s ∷ js) n q =
    (p : Peer) (j : ℕ) (m : Content) → s < j → j < n → IsNotice h p j m
    → (o : ℕ) × (r : CoapRequest) × (known : IsNotified h o r j m)
    × (asks_same q r ≡ true → IsOlder h o r j m known)
