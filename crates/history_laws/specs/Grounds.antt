-- What an answer rests on, of every legal reading of a history.
use Rattle.std.specs.Prelude.{◌≡◌, ◌≢◌, ◌⊎◌, ℕ, ◌<◌, ◌≤◌, true, false, List, [], Option, Some, None}
use Rattle.std.specs.List.{Contains}
use Rattle.coap_codec.specs.Spelling.{Spells}
use Rattle.coap_codec.specs.declared.block.Block.{Block}
use Rattle.uri_map.specs.declared.peer.Peer.{Peer}
use Rattle.ask_model.specs.Requests.{CoapRequest, Requests, Manner, Validating, asking, observe_message}
use Rattle.ask_model.specs.Sharing.{asked_place, asks_same}
use Rattle.ask_model.specs.Views.{Ask}
use Rattle.resp_cache.specs.Stored.{Stored, is_fresh}
use Rattle.journal_book.specs.Entries.{Grounds, Live, Kept, Fault, Ground, Answers, Carries}
use Rattle.journal_book.specs.Entries as D
use Rattle.history_laws.specs.Readings.{Noted, Note, First, Recalls, Answered, noted, at, before}
use Rattle.coap_codec.specs.Recognition.{value_of}
use Rattle.history_laws.specs.Responses.{valid}
use Rattle.history_laws.specs.Progress.{Reply, Ending, Renewed}
use Rattle.history_laws.specs.Exchanges.{Begun, begun, kept}
use Rattle.history_laws.specs.Joining.{outrun}
use Rattle.history_laws.specs.Carrying.{carried, carried_replies}
use Rattle.history_laws.specs.Storing.{IsBrought, IsCarried, IsRenewed, IsStored, pieces_of}
use Rattle.history_laws.specs.Hearing.{IsReplyKind}
use Rattle.history_laws.specs.Justified.{IsAsk, Ends, reads, Legal}
use Rattle.history_laws.specs.Laws.{IsFirst, IsAnswer, IsReplyTo, IsBegunBy}

-- The entry with this number is a reply to the exchange that the ask reads, and came to a message
-- that asks just what the ask means, sent after that was opened.
pub record RestsOn (l : List Noted) (k j : ℕ) : Type 0 where
  pub conn : ℕ
  pub ask : Ask
  pub request : CoapRequest
  pub asked : IsAsk l k conn ask
  pub sense : ask.sense ≡ Requests request
  pub opening : ℕ
  pub reads : reads l k ≡ Some opening
  pub not_later : opening ≤ k
  pub reply : Reply
  pub number : reply.number ≡ j
  pub fits : IsReplyTo l opening reply
  pub after : opening < reply.sending
  pub moment : ℕ
  pub mid : ℕ
  pub token : List ℕ
  pub block : Option Block
  pub manner : Manner
  pub first : IsFirst l moment opening reply.sending request.peer
      (asking manner request block mid token)

-- The entry with this number is the notification that opened the exchange that the ask reads. It
-- came under the token of a message that asks just what the ask means, and to be told of changes,
-- sent for an ask that no write to the place has ended after before this one.
pub record RestsOnNotice (l : List Noted) (k j : ℕ) : Type 0 where
  pub conn : ℕ
  pub ask : Ask
  pub request : CoapRequest
  pub asked : IsAsk l k conn ask
  pub sense : ask.sense ≡ Requests request
  pub reads : reads l k ≡ Some j
  pub earlier : j < k
  pub exchange : Begun
  pub opened : begun l j ≡ Some exchange
  pub same : asks_same request exchange.request ≡ true
  pub reply : Reply
  pub number : reply.number ≡ j
  pub begun_by : IsBegunBy l j exchange.request reply
  pub current : outrun (before l k) (asked_place request) begun_by.ask ≡ false
  pub moment : ℕ
  pub mid : ℕ
  pub token : List ℕ
  pub first : IsFirst l moment begun_by.ask reply.sending request.peer
      (observe_message request mid token)

-- What was stored before the ask for a request equal to it, fresh at its moment, has this reply,
-- which came to a message that asks just what the ask means, sent after the ask that it goes back
-- to: by the exchange of that, or by one that a notification opened.
pub record RestsOnStored (l : List Noted) (k j : ℕ) : Type 0 where
  pub conn : ℕ
  pub ask : Ask
  pub request : CoapRequest
  pub asked : IsAsk l k conn ask
  pub sense : ask.sense ≡ Requests request
  pub stored : Stored
  pub is : IsBrought (before l k) request stored
  pub fresh : is_fresh asked.moment stored ≡ true
  pub listed : Contains stored.list j
  pub reply : Reply
  pub number : reply.number ≡ j
  pub earlier : j < k
  pub owner : ℕ
  pub owned : (owner ≡ is.opening) ⊎ (owner ≡ stored.opening)
  pub fits : IsReplyTo l owner reply
  pub after : stored.opening < reply.sending
  pub moment : ℕ
  pub mid : ℕ
  pub token : List ℕ
  pub block : Option Block
  pub manner : Manner
  pub first : IsFirst l moment owner reply.sending request.peer
      (asking manner request block mid token)

-- The reply is a copy of one to a message of which a copy stands before it: to one that asked for
-- this, or for a block of it, under its token. It was sent for the ask that the entry o copies.
pub record IsCarriedReply (l : List Noted) (o : ℕ) (q : CoapRequest) (r : Reply) : Type 0 where
  pub manner : Manner
  pub block : Option Block
  pub mid : ℕ
  pub sent_at : ℕ
  pub old : ℕ
  pub text : List ℕ
  pub timeout : Option ℕ
  pub sent : at l r.sending
      ≡ Some (noted sent_at (Carries old Ground (D.Sent q.peer text timeout))
      (First o (asking manner q block mid r.message.token)))
  pub asks : Spells (asking manner q block mid r.message.token) text
  pub opened : o < r.sending
  pub moment : ℕ
  pub number : ℕ
  pub bytes : List ℕ
  pub answer : Answered
  pub heard : at l r.number
      ≡ Some (noted moment (Carries number Ground (D.Heard q.peer bytes))
      (Recalls r.message answer))
  pub spelled : Spells r.message bytes
  pub after : r.sending < r.number
  pub response : 32 ≤ r.message.code
  pub kind : IsReplyKind r.message.kind r.message.mid mid

abbrev pub CarriedRepliesFit : Type 0
CarriedRepliesFit =
    (l : List Noted) (o : ℕ) (b : Begun) (r : Reply) → Legal l → carried l o ≡ Some b
    → Contains (carried_replies l o) r → IsCarriedReply l o b.request r

-- What the journal began with, and was stored before the ask for a request equal to it, fresh at
-- its moment, has this reply, which came to a message that asks just what the ask means.
pub record RestsOnCarried (l : List Noted) (k j : ℕ) : Type 0 where
  pub conn : ℕ
  pub ask : Ask
  pub request : CoapRequest
  pub asked : IsAsk l k conn ask
  pub sense : ask.sense ≡ Requests request
  pub stored : Stored
  pub is : IsCarried (before l k) request stored
  pub fresh : is_fresh asked.moment stored ≡ true
  pub listed : Contains stored.list j
  pub reply : Reply
  pub number : reply.number ≡ j
  pub earlier : j < k
  pub fits : IsCarriedReply l is.opening is.carries.exchange.request reply

-- The reply came to a message of the exchange that asks just what this request means.
pub record IsReplyFor (l : List Noted) (o : ℕ) (q : CoapRequest) (r : Reply) : Type 0 where
  pub fits : IsReplyTo l o r
  pub after : o < r.sending
  pub moment : ℕ
  pub mid : ℕ
  pub token : List ℕ
  pub block : Option Block
  pub manner : Manner
  pub first : IsFirst l moment o r.sending q.peer (asking manner q block mid token)

-- The entry is a reply to such a message, or copies one, which was asked for since that entry.
pub record IsHeardFor (l : List Noted) (since : ℕ) (q : CoapRequest) (j : ℕ) : Type 0 where
  pub opening : ℕ
  pub reply : Reply
  pub number : reply.number ≡ j
  pub fits : IsReplyFor l opening q reply
  pub late : since < reply.sending

pub record IsCopiedFor (l : List Noted) (since : ℕ) (q : CoapRequest) (j : ℕ) : Type 0 where
  pub exchange : Begun
  pub asked : carried l since ≡ Some exchange
  pub same : asks_same q exchange.request ≡ true
  pub reply : Reply
  pub number : reply.number ≡ j
  pub fits : IsCarriedReply l since exchange.request reply

abbrev pub IsToldFor : List Noted → ℕ → CoapRequest → ℕ → Type 0
IsToldFor l since q j = IsHeardFor l since q j ⊎ IsCopiedFor l since q j

-- What was stored before the ask for a request equal to it, renewed by a 2.03 and fresh at its
-- moment, has this entry in its list.
pub record RestsOnRenewed (l : List Noted) (k j : ℕ) : Type 0 where
  pub conn : ℕ
  pub ask : Ask
  pub request : CoapRequest
  pub asked : IsAsk l k conn ask
  pub sense : ask.sense ≡ Requests request
  pub stored : Stored
  pub is : IsRenewed (before l k) request stored
  pub fresh : is_fresh asked.moment stored ≡ true
  pub listed : Contains stored.list j
  pub earlier : j < k
  pub told : IsToldFor l stored.opening request j

-- An answer from the store rests on a response that is stored for what its ask means, and is given
-- in the moment of the ask.
abbrev pub RestsOnTheStore : Type 0
RestsOnTheStore =
    (l : List Noted) (n t c k j : ℕ) (note : Note) (js : List ℕ) → Legal l
    → at l n ≡ Some (noted t (Answers c k (Kept js)) note)
    → Contains js j
    → ((r : RestsOnStored l k j) × (r.asked.moment ≡ t) × (r.stored.list ≡ js))
    ⊎ (((r : RestsOnCarried l k j) × (r.asked.moment ≡ t) × (r.stored.list ≡ js))
    ⊎ ((r : RestsOnRenewed l k j) × (r.asked.moment ≡ t) × (r.stored.list ≡ js)))

-- The exchange that the ask reads keeps what was stored for its request before it was opened, which
-- has this entry in its list.
pub record RestsOnKept (l : List Noted) (k j : ℕ) : Type 0 where
  pub conn : ℕ
  pub ask : Ask
  pub request : CoapRequest
  pub asked : IsAsk l k conn ask
  pub sense : ask.sense ≡ Requests request
  pub opening : ℕ
  pub reads : reads l k ≡ Some opening
  pub not_later : opening ≤ k
  pub exchange : Begun
  pub opened : begun l opening ≡ Some exchange
  pub stored : Stored
  pub is : IsStored (before l opening) exchange.request stored
  pub keeps : kept l opening ≡ Some (pieces_of (before l opening) stored)
  pub listed : Contains stored.list j
  pub earlier : j < opening
  pub told : IsToldFor l stored.opening request j

-- An answer rests on replies to the exchange that its ask reads alone, and on the notification that
-- opened that, if one did; and where that renewed what it keeps, on those of that.
abbrev pub RestsOnItsOwn : Type 0
RestsOnItsOwn =
    (l : List Noted) (n c k j : ℕ) (js : List ℕ) → Legal l → IsAnswer l n c k (Live js)
    → Contains js j → RestsOn l k j ⊎ (RestsOnNotice l k j ⊎ RestsOnKept l k j)

-- What an exchange keeps is renewed by the reply to its first message, which bears the ETag of that
-- and asks nothing else but what was asked for: the reply is a 2.03 with the same ETag.
pub record IsConfirmed (l : List Noted) (o : ℕ) (b : Begun) (s : Stored) (r : Reply)
    : Type 0 where
  pub keeps : kept l o ≡ Some s
  pub stored : Stored
  pub is : IsStored (before l o) b.request stored
  pub pieces : s ≡ pieces_of (before l o) stored
  pub stale : is_fresh b.since s ≡ false
  pub tag : List ℕ
  pub has : s.response.etag ≡ Some tag
  pub fits : IsReplyTo l o r
  pub moment : ℕ
  pub mid : ℕ
  pub token : List ℕ
  pub first : IsFirst l moment o r.sending b.request.peer
      (asking (Validating tag) b.request None mid token)
  pub code : r.message.code ≡ valid
  pub same : value_of 4 r.message ≡ Some tag

abbrev pub ConfirmedAsAsked : Type 0
ConfirmedAsAsked =
    (l : List Noted) (o e : ℕ) (b : Begun) (s : Stored) (r : Reply) → Legal l
    → begun l o ≡ Some b → Ends l o e (Renewed s r) → IsConfirmed l o b s r

-- The exchange of a request that isn't a GET ended at this entry: what was read of the resource
-- before may be out of date from here on.
pub record IsWriteEnd (l : List Noted) (p : Peer) (path : List (List ℕ)) (e : ℕ) : Type 0 where
  pub opening : ℕ
  pub write : Begun
  pub opened : begun l opening ≡ Some write
  pub changes : write.request.method ≢ 1
  pub place : (write.request.peer ≡ p) × (write.request.target.path ≡ path)
  pub how : Ending
  pub ended : Ends l opening e how

-- the replies that an answer rests on
abbrev pub replies_in : Grounds → List ℕ
replies_in (Live js) = js
replies_in (Kept js) = js
replies_in (Fault cause n) = []

-- No answer to a GET, live or kept, rests on a token that was issued before the end of a write to
-- its resource, where that lies before the ask.
abbrev pub NothingOutrun : Type 0
NothingOutrun =
    (l : List Noted) (n c k j e : ℕ) (g : Grounds) (a : Ask) (q : CoapRequest) → Legal l
    → IsAnswer l n c k g → Contains (replies_in g) j
    → IsAsk l k c a → a.sense ≡ Requests q → q.method ≡ 1 → IsWriteEnd l q.peer q.target.path e
    → e < k
    → (o : ℕ) × (r : Reply) × IsReplyTo l o r × (r.number ≡ j) × (e < r.sending)
