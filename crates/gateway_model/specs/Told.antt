-- What connections are told, said of the entries of the journal alone: each answer shows one whole
-- response that was heard for just what its ask asks for, or is the proxy's own error, and tells
-- the cause and the entry that the journal names.
use Rattle.std.specs.Prelude.{◌≡◌, ◌⊎◌, ℕ, ◌+◌, ◌-◌, ◌<◌, ⊤, ◌==◌, if◌then◌else◌, List, [], ◌∷◌, ◌++◌, length, map, flat_map, true, false, Option, is_some}
use Rattle.std.specs.List.{AllByRecursion, Contains}
use Rattle.coap_codec.specs.Spelling.{Content}
use Rattle.uri_map.specs.declared.peer.Peer.{Peer}
use Rattle.media_map.specs.declared.form.Form.{Form}
use Rattle.http_edge.specs.Answers.{answer_text}
use Rattle.http_edge.specs.declared.answer.HttpAnswer.{HttpAnswer}
use Rattle.ask_model.specs.Requests.{CoapRequest}
use Rattle.ask_model.specs.Views.{Ask, Mapping, Rules}
use Rattle.journal_book.specs.Entries.{Grounds, Live, Kept, Fault, Deed, Asks, Answers, Written}
use Rattle.http_mapping.specs.Means.{MeansWhole, Tells, last_reply}
use Rattle.resp_cache.specs.Stored.{Stored}
use Rattle.history_laws.specs.Responses.{Response, confirms, renewed_response, response_of}
use Rattle.history_laws.specs.Justified.{Stands}
use Rattle.history_claims.specs.Headline.{IsEntry, WasHeard, IsHeardFirst, RestsOn}
use Rattle.history_claims.specs.Stored.{WasRenewed, never, again, IsServed, RestsOnRenewed}
use Rattle.history_claims.specs.Causes.{IsCausedBy, AreCaused}
use Rattle.exchange_core.specs.Values.{CoreValue}
use Rattle.gateway_model.specs.declared.input.Happening.{Happening}
use Rattle.gateway_model.specs.declared.input.When.{When}
use Rattle.gateway_model.specs.Acts.{Act, Served, DoesAll, continue_text}
use Rattle.gateway_model.specs.Emissions.{Emission, Says, given_up_in}
use Rattle.gateway_model.specs.Orders.{IsInOrder}
use Rattle.gateway_model.specs.Tellings.{IsMapped, AreMapped, terms_of}
use Rattle.gateway_model.specs.Waiting.{IsDrained}

abbrev pub mapping_of : Ask → Mapping
mapping_of a = record { came = a.came; sense = a.sense; rules = a.rules }

-- The response is in a format that was heard of it: in one of these entries, which heard no 2.03; or
-- in a 2.03 that named it, by which what has the ETag of the response is valid still.
pub record IsInFormat (h : List Written) (js : List ℕ) (w : Response) : Type 0 where
  pub peer : Peer
  pub number : ℕ
  pub moment : ℕ
  pub message : Content
  pub heard : WasHeard h peer number moment message
  pub format : (response_of message).format ≡ w.format
  pub source : (Contains js number × (message.code == 67 ≡ false))
      ⊎ ((confirms w.etag message ≡ true) × (is_some w.format ≡ true))

-- It is what was stored, as this 2.03 renews it: with the Max-Age of that, and in its format where
-- it names one (RFC 7252 section 5.9.1.3), or else in one of before.
pub record IsRenewedAs (h : List Written) (js : List ℕ) (stored : Response) (m : Content)
    (w : Response) : Type 0 where
  pub before : Option ℕ
  pub is : w ≡ renewed_response (record stored { format = before }) m
  pub format : IsInFormat h js w

-- It is what is stored, which was heard so, or renewed.
abbrev pub IsAsStored : (h : List Written) (q : CoapRequest) (first : Stored) (n : ℕ) (s : Stored)
    → WasRenewed h q first n s → Response → Type 0
IsAsStored h q first n s (never before) w = w ≡ s.response
IsAsStored h q first n s (again {s = old} o c t j r m asked same was it before) w =
    IsRenewedAs h (first.list ++ j ∷ []) old.response m w

module _ (holds : Form → Form → List ℕ → List ℕ → Type 0)
    (takes : Form → Form → List ℕ → Type 0) where
  -- The response shows, by the tables of RFC 8075, the whole response that the answer in the entry
  -- n rests on, which is as old at the moment of the answer as its first reply.
  pub record ShowsReplies (h : List Written) (n t c k : ℕ) (a : Ask) (js : List ℕ) (r : HttpAnswer)
      : Type 0 where
    pub rests : RestsOn h n c k js
    pub since : ℕ
    pub first : IsHeardFirst h since js
    pub shows : MeansWhole a.rules.routes holds takes (mapping_of a) rests.response
        (last_reply (Live js)) (t - since) r

  -- Or it shows what was stored for that, as the 2.03 renews it on which the answer rests: it is as
  -- old as that.
  pub record ShowsRenewed (h : List Written) (n t c k : ℕ) (a : Ask) (js : List ℕ) (r : HttpAnswer)
      : Type 0 where
    pub rests : RestsOnRenewed h n c k js
    pub response : Response
    pub is : IsRenewedAs h js rests.stored.response rests.message response
    pub shows : MeansWhole a.rules.routes holds takes (mapping_of a) response
        (last_reply (Live js)) (t - rests.valid.heard.response.moment) r

  -- It shows a stored one, which is fresh at the moment of the answer, and as old as its first
  -- reply, or as the 2.03 that renewed it: one that was heard in this journal, or one that this
  -- begins with.
  pub record ShowsStored (h : List Written) (t c k : ℕ) (a : Ask) (js : List ℕ) (r : HttpAnswer)
      : Type 0 where
    pub served : IsServed h t c k js
    pub response : Response
    pub is : IsAsStored h served.request served.is.first k served.stored served.is.renewed response
    pub shows : MeansWhole a.rules.routes holds takes (mapping_of a) response
        (last_reply (Kept js)) (t - served.stored.heard) r

  -- So it does; or it is the proxy's own error, and tells its cause and an entry.
  abbrev pub ShowsGrounds : List Written → ℕ → ℕ → ℕ → ℕ → Ask → Grounds → HttpAnswer → Type 0
  ShowsGrounds h n t c k a (Live js) r =
      ShowsReplies h n t c k a js r ⊎ ShowsRenewed h n t c k a js r
  ShowsGrounds h n t c k a (Kept js) r = ShowsStored h t c k a js r
  ShowsGrounds h n t c k a (Fault cause j) r = Tells (mapping_of a) cause j r

  -- The bytes are an HTTP response that tells the answer in the entry n to an ask of the
  -- connection.
  pub record TellsAnswer (h : List Written) (c n : ℕ) (bytes : List ℕ) : Type 0 where
    pub moment : ℕ
    pub number : ℕ
    pub grounds : Grounds
    pub answered : IsEntry h n moment (Answers c number grounds)
    pub before : ℕ
    pub ask : Ask
    pub asked : IsEntry h number before (Asks c ask)
    pub response : HttpAnswer
    pub shows : ShowsGrounds h n moment c number ask grounds response
    pub text : bytes ≡ answer_text response

-- a piece of what a connection is told: that it may go on with its body, or the answer of an entry
pub data Piece : Type 0 where
  interim : Piece
  final : (number : ℕ) → (bytes : List ℕ) → Piece

abbrev pub bytes_in : Piece → List ℕ
bytes_in interim = continue_text
bytes_in (final n bytes) = bytes

abbrev pub answers_in : Piece → List ℕ
answers_in interim = []
answers_in (final n bytes) = n ∷ []

-- What is told first, if anything is, is an answer.
abbrev pub IsAnswerFirst : List Piece → Type 0
IsAnswerFirst [] = ⊤
IsAnswerFirst (interim ∷ ps) = ⊥
IsAnswerFirst (final n bytes ∷ ps) = ⊤

-- After it was told to go on it is told so no more before an answer (RFC 9110 section 10.1.1).
abbrev pub AreOnce : List Piece → Type 0
AreOnce [] = ⊤
AreOnce (interim ∷ ps) = IsAnswerFirst ps × AreOnce ps
AreOnce (final n bytes ∷ ps) = AreOnce ps

-- the numbers of the answers to a connection among entries, the first of which has this number
abbrev pub answers_by : ℕ → ℕ → Deed → List ℕ
answers_by c n (Answers d k g) = if d == c then n ∷ [] else []
answers_by c n _ = []

abbrev pub answers_to : ℕ → ℕ → List Written → List ℕ
answers_to c n [] = []
answers_to c n (w ∷ ws) = answers_by c n w.deed ++ answers_to c (n + 1) ws

-- the byte strings that a connection gets, in order
abbrev pub said_by : ℕ → Emission → List (List ℕ)
said_by c (Says d bytes) = if d == c then bytes ∷ [] else []
said_by c _ = []

abbrev pub said_to : ℕ → List Emission → List (List ℕ)
said_to c out = flat_map (said_by c) out

-- An own error has its cause.
abbrev pub HasCause : List Written → ℕ → ℕ → ℕ → ℕ → Grounds → Type 0
HasCause h n t c k (Fault cause j) = (j < n) × IsCausedBy h n t c k cause j
HasCause h n t c k _ = ⊤

module _ (holds : Form → Form → List ℕ → List ℕ → Type 0)
    (takes : Form → Form → List ℕ → Type 0) where
  abbrev pub IsPiece : List Written → ℕ → Piece → Type 0
  IsPiece h c interim = ⊤
  IsPiece h c (final n bytes) = TellsAnswer holds takes h c n bytes

  -- After these entries the journal got more, and a connection was told just the answers to it
  -- among those, each once and in their order, and, in between, that it may go on with a body, at
  -- most once before each answer.
  pub record IsToldAnswers (before more : List Written) (c : ℕ) (out : List Emission)
      : Type 0 where
    pub pieces : List Piece
    pub said : said_to c out ≡ map bytes_in pieces
    pub each : AllByRecursion (IsPiece (before ++ more) c) pieces
    pub once : AreOnce pieces
    pub answers : flat_map answers_in pieces ≡ answers_to c (length before) more

  -- Only the last of these it wasn't told.
  pub record IsToldButLast (before more : List Written) (c : ℕ) (out : List Emission)
      : Type 0 where
    pub pieces : List Piece
    pub said : said_to c out ≡ map bytes_in pieces
    pub each : AllByRecursion (IsPiece (before ++ more) c) pieces
    pub once : AreOnce pieces
    pub untold : ℕ
    pub answers : flat_map answers_in pieces ++ untold ∷ [] ≡ answers_to c (length before) more

  -- It was told just the answers to it; or it is given up, and was told all but the last.
  abbrev pub IsToldWhole : List Written → List Written → ℕ → List Emission → Type 0
  IsToldWhole before more c out =
      IsToldAnswers before more c out
      ⊎ (Contains (given_up_in out) c × IsToldButLast before more c out)

  -- Entries were only added; all that was ever asked was mapped by these rules; and each connection
  -- was told just the answers to it among the new entries, where it isn't given up.
  pub record TellsAll (rules : Rules) (old new : CoreValue) (out : List Emission) : Type 0 where
    pub more : List Written
    pub added : new.state.entries ≡ old.state.entries ++ more
    pub mapped : AreMapped holds takes rules new.state.entries
    pub told : (c : ℕ) → IsToldWhole old.state.entries more c out

  -- From nothing that waits to nothing that waits, so it is, where the journal stands.
  abbrev pub AllTell : Type 0
  AllTell =
      (rules : Rules) (w : When) (x : Happening) (acts : List Act)
      (old : Served) (out : List Emission) (new : Served)
      → DoesAll (terms_of holds takes rules) w acts old out new → IsInOrder x acts
      → IsDrained old.core → IsDrained new.core → Stands new.core.state.entries
      → AreMapped holds takes rules old.core.state.entries
      → TellsAll rules old.core new.core out

  -- Where nobody is given up, each connection was told just the answers to it.
  abbrev pub WholeAreTold : Type 0
  WholeAreTold =
      (before more : List Written) (c : ℕ) (out : List Emission) → given_up_in out ≡ []
      → IsToldWhole before more c out → IsToldAnswers before more c out

  -- Where all that was asked was mapped by the rules, and own errors name their causes, so it is of
  -- each answer that is told.
  abbrev pub ToldAreMeant : Type 0
  ToldAreMeant =
      (rules : Rules) (h : List Written) (c n : ℕ) (bytes : List ℕ)
      → AreMapped holds takes rules h → AreCaused h → (a : TellsAnswer holds takes h c n bytes)
      → IsMapped holds takes rules a.ask × HasCause h n a.moment c a.number a.grounds
