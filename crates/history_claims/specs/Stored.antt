-- What an answer rests on that was heard before its ask, as what is stored for that: said of a
-- journal's entries alone.
use Rattle.std.specs.Prelude.{◌≡◌, ◌⊎◌, ℕ, ◌+◌, ◌<◌, List, [], ◌∷◌, ◌++◌, Some, None}
use Rattle.std.specs.List.{Contains}
use Rattle.coap_codec.specs.Spelling.{Content}
use Rattle.coap_codec.specs.Recognition.{value_of}
use Rattle.ask_model.specs.Requests.{CoapRequest, Requests, Validating}
use Rattle.journal_book.specs.Entries.{Live, Kept, Answers, Written}
use Rattle.resp_cache.specs.Stored.{Stored, lifetime}
use Rattle.history_laws.specs.Responses.{Response, whole_of, renewed_response}
use Rattle.history_laws.specs.Progress.{first_point}
use Rattle.history_laws.specs.Justified.{Stands}
use Rattle.history_claims.specs.Headline.{IsEntry, IsAsked, IsHeardFor, IsInTime, IsSameGet, IsWriteAnswer, IsShared, AreHeardFor, IsHeardFirst, RestsOn, AreHeardOn, IsNewest}
use Rattle.history_claims.specs.Carried.{IsAskCopied, AreCarriedFor, IsCarriedFirst}

-- The ask o asked for q, and these entries heard these messages for that, of which the first may be
-- a notification of what that observes: it was heard at this moment.
pub record WasHeardHere
    (h : List Written) (o : ℕ) (q : CoapRequest) (js : List ℕ) (ms : List Content) (since : ℕ)
    : Type 0 where
  pub conn : ℕ
  pub moment : ℕ
  pub asked : IsAsked h o conn moment (Requests q)
  pub heard : AreHeardFor h o q (first_point q) js ms ⊎ AreHeardOn h o q js ms
  pub first : IsHeardFirst h since js

-- Or the journal begins with copies of such an ask, and of entries that heard these for it.
pub record WasCarried
    (h : List Written) (o : ℕ) (q : CoapRequest) (js : List ℕ) (ms : List Content) (since : ℕ)
    : Type 0 where
  pub asked : IsAskCopied h o q
  pub heard : AreCarriedFor h o q js ms
  pub first : IsCarriedFirst h since js

-- By either, this is a whole 2.05 to an ask of the same GET as q. It counts from its first reply.
pub record WasWhole (h : List Written) (q : CoapRequest) (s : Stored) : Type 0 where
  pub other : CoapRequest
  pub same : IsSameGet q other
  pub messages : List Content
  pub heard : WasHeardHere h s.opening other s.list messages s.heard
      ⊎ WasCarried h s.opening other s.list messages s.heard
  pub whole : whole_of other messages ≡ Some s.response
  pub content : s.response.code ≡ 69

-- The response is valid still, as the entry j heard: in a 2.03 with its ETag, which is the reply to
-- a message that was sent for the ask o and bore that ETag (RFC 7252 section 5.9.1.3).
pub record IsValid
    (h : List Written) (o : ℕ) (q : CoapRequest) (w : Response) (j : ℕ) (m : Content)
    : Type 0 where
  pub tag : List ℕ
  pub has : w.etag ≡ Some tag
  pub heard : IsHeardFor h o q None j m
  pub asked : heard.sent_for.asks.0 ≡ Validating tag
  pub code : m.code ≡ 67
  pub confirmed : value_of 4 m ≡ Some tag

-- By that it is renewed: it counts from the 2.03, which follows the entries that heard it first, in
-- place of one before.
abbrev pub renewed : Stored → Stored → ℕ → ℕ → Content → Stored
renewed first s t j m = record s {
  response = renewed_response s.response m;
  heard = t;
  list = first.list ++ j ∷ [];
}

-- What was heard first so is, before the entry n, what is stored for q; or that was renewed, for an
-- ask of the same GET, once or more.
pub data WasRenewed (h : List Written) (q : CoapRequest) (first : Stored)
    : ℕ → Stored → Type 0 where
  never : {n : ℕ} → ((j : ℕ) → Contains first.list j → j < n) → WasRenewed h q first n first
  again : {n : ℕ} {s : Stored} (o c t j : ℕ) (r : CoapRequest) (m : Content)
      → IsAsked h o c t (Requests r) → IsSameGet q r → WasRenewed h q first o s
      → (it : IsValid h o r s.response j m) → j < n
      → WasRenewed h q first n (renewed first s it.heard.response.moment j m)

-- Before the entry n this is stored for q. Since what was heard first of it no newer notification
-- counted, and no write to the resource was answered since the ask that it was heard for.
pub record WasStored (h : List Written) (n : ℕ) (q : CoapRequest) (s : Stored) : Type 0 where
  pub first : Stored
  pub whole : WasWhole h q first
  pub earlier : first.opening < n
  pub renewed : WasRenewed h q first n s
  pub newest : IsNewest h first.list n q
  pub current : (w : ℕ) → IsWriteAnswer h q w → w < n → w < first.opening

-- The answer that the connection is given at this moment, to the ask k of the same moment, rests on
-- what is stored for that, which is fresh (RFC 7252 section 5.6.1).
pub record IsServed (h : List Written) (t c k : ℕ) (js : List ℕ) : Type 0 where
  pub request : CoapRequest
  pub asked : IsAsked h k c t (Requests request)
  pub stored : Stored
  pub is : WasStored h k request stored
  pub list : stored.list ≡ js
  pub fresh : t < stored.heard + lifetime stored.response.max_age

-- The answer in the entry n, to the ask k of its connection, rests on what was stored for that when
-- it was asked, or when that was which it joined; and on a 2.03 by which that is renewed, heard
-- after the ask, before the answer and before the ask that it shares was 93 seconds old.
pub record RestsOnRenewed (h : List Written) (n c k : ℕ) (js : List ℕ) : Type 0 where
  pub request : CoapRequest
  pub opening : ℕ
  pub since : ℕ
  pub shared : IsShared h c k request opening opening since
  pub stored : Stored
  pub was : WasStored h opening request stored
  pub number : ℕ
  pub message : Content
  pub valid : IsValid h opening request stored.response number message
  pub list : (renewed was.first stored valid.heard.response.moment number message).list ≡ js
  pub before : number < n
  pub live : k < number
  pub in_time : IsInTime h since k n

-- In every journal that stands, an answer that isn't the proxy's own rests on one whole response to
-- what its ask asked; or on what was stored for that, and was renewed.
abbrev pub RestsOnReplies : Type 0
RestsOnReplies =
    (h : List Written) (n t c k : ℕ) (js : List ℕ) → Stands h
    → IsEntry h n t (Answers c k (Live js)) → RestsOn h n c k js ⊎ RestsOnRenewed h n c k js

-- And one that was kept rests on what is stored.
abbrev pub RestsOnStored : Type 0
RestsOnStored =
    (h : List Written) (n t c k : ℕ) (js : List ℕ) → Stands h
    → IsEntry h n t (Answers c k (Kept js)) → IsServed h t c k js
