-- What a story promises of answers to GETs.
use Rattle.std.specs.Prelude.{◌≡◌, ◌≢◌, ℕ, ◌<◌, ◌≤◌, ◌/◌, ⊤, List, [], ◌∷◌, ◌++◌, length, map, take, slice_get, Option, Some}
use Rattle.std.specs.List.{AllByRecursion, Contains}
use Rattle.coap_codec.specs.Spelling.{Content}
use Rattle.coap_codec.specs.Values.{values}
use Rattle.coap_codec.specs.declared.block.Block.{Block}
use Rattle.ask_model.specs.Requests.{CoapRequest}
use Rattle.journal_book.specs.Entries.{Live, Kept, Answers, Written}
use Rattle.resp_cache.specs.Stored.{Stored}
use Rattle.history_claims.specs.Headline.{AsksFor, IsEntry, IsFirstSending, IsSentFor, RestsOn}
use Rattle.history_claims.specs.Stored.{IsServed, RestsOnRenewed, WasCarried, WasHeardHere, WasWhole}
use Rattle.demo_origin.specs.Done.{left_with}
use Rattle.demo_origin.specs.Requests.{IsAt}
use Rattle.demo_origin.specs.declared.state.Held.{Held}
use Rattle.gateway_model.specs.Emissions.{Emission}
use Rattle.gateway_world.specs.Journals.{journal_in, parts_of}
use Rattle.three_parties.specs.Flights.{Going, device_at}
use Rattle.three_parties.specs.Promises.{IsExecutedOnce}
use Rattle.three_parties.specs.Ticks.{LooksInTime}
use Rattle.three_parties.specs.declared.story.Execution.{Execution}
use Rattle.three_parties.specs.declared.turn.Turn.{Turn}

-- At this moment the resource of the path, which is one of these, held this state: the first so
-- many executions left it with that, none of which came later, and none of the others came earlier.
pub record IsHeldAt (moment : ℕ) (path : List (List ℕ)) (resources : List Held)
    (taken : List Execution) (count : ℕ) (state : List ℕ) : Type 0 where
  pub earlier : (e : ℕ) (y : Execution) → slice_get taken e ≡ Some y → e < count
      → y.moment ≤ moment
  pub later : (e : ℕ) (y : Execution) → slice_get taken e ≡ Some y → count ≤ e
      → moment ≤ y.moment
  pub place : ℕ
  pub first : Held
  pub stands : IsAt path resources place first
  pub left :
      state ≡ left_with path first.state (map (λ (y : Execution). y.taken) (take count taken))

-- Each request but a GET (method 1) to the place of q that was answered by success before the entry
-- k was executed exactly once, as one of the first so many.
abbrev pub AreDone : List Written → List Going → List Execution → ℕ → CoapRequest → ℕ → Type 0
AreDone h flights taken k q count =
    (n t c w : ℕ) (js : List ℕ) → IsEntry h n t (Answers c w (Live js)) → (r : RestsOn h n c w js)
    → r.request.method ≢ 1 → r.request.peer ≡ q.peer → r.request.target.path ≡ q.target.path
    → r.response.code / 32 ≡ 2 → n < k
    → (done : IsExecutedOnce h r.opening r.request js flights taken) × (done.place < count)

-- So was each that was answered in one of the journals before.
abbrev pub AreAllDone
    : List (List Written) → List Going → List Execution → CoapRequest → ℕ → Type 0
AreAllDone before flights taken q count =
    AllByRecursion (λ (h : List Written). AreDone h flights taken (length h) q count) before

-- The resource held this state after the message was first sent, and before this answer, at these
-- moments; and after each write that was answered before the ask k for q, in this journal or in one
-- of those before.
pub record ShowsBetween (before : List (List Written)) (h : List Written) (k : ℕ) (q : CoapRequest)
    (message : Content) (sent_at answered_at : ℕ) (resources : List Held) (flights : List Going)
    (taken : List Execution) (state : List ℕ) : Type 0 where
  pub moment : ℕ
  pub not_before : sent_at ≤ moment
  pub not_after : moment ≤ answered_at
  pub count : ℕ
  pub held : IsHeldAt moment (values 11 message.options) resources taken count state
  pub written : AreDone h flights taken k q count
  pub written_before : AreAllDone before flights taken q count

-- It is a message that asks r, for the GET q of the ask k: it was sent after the entry o,
pub record ShowsHeld (before : List (List Written)) (h : List Written) (k o : ℕ) (q r : CoapRequest)
    (answered_at : ℕ) (resources : List Held) (flights : List Going) (taken : List Execution)
    (state : List ℕ) : Type 0 where
  pub block : Option Block
  pub sending : ℕ
  pub message : Content
  pub sent : IsSentFor h o r block sending message
  pub shows :
      ShowsBetween before h k q message sent.moment answered_at resources flights taken state

-- or in one of the journals before.
pub record WasSentFor (journals : List (List Written)) (r : CoapRequest) (m : Content)
    : Type 0 where
  pub block : Option Block
  pub asks : AsksFor r block m
  pub journal : List Written
  pub among : Contains journals journal
  pub number : ℕ
  pub moment : ℕ
  pub first : IsFirstSending journal number moment r.peer m

pub record ShowsCarried (before : List (List Written)) (h : List Written) (k : ℕ)
    (q r : CoapRequest) (answered_at : ℕ) (resources : List Held) (flights : List Going)
    (taken : List Execution) (state : List ℕ) : Type 0 where
  pub message : Content
  pub sent : WasSentFor before r message
  pub shows :
      ShowsBetween before h k q message sent.moment answered_at resources flights taken state

-- What was heard first of what is stored for q shows such a state, where it was heard in this
-- journal; and where that was in one before, with copies of which this one begins. It was in one of
-- the two (WasWhole).
abbrev pub ShowsFirst : (before : List (List Written)) (h : List Written) (k : ℕ) (q : CoapRequest)
    (first : Stored) → WasWhole h q first → ℕ → List Held → List Going → List Execution → List ℕ
    → Type 0
ShowsFirst before h k q first w answered_at resources flights taken state =
    (WasHeardHere h first.opening w.other first.list w.messages first.heard
    → ShowsHeld before h k first.opening q w.other answered_at resources flights taken state)
    × (WasCarried h first.opening w.other first.list w.messages first.heard
    → ShowsCarried before h k q w.other answered_at resources flights taken state)

-- Each answer to a GET that rests on one 2.05 (69), in one piece which names no block (23), shows
-- such a state: an answer to replies that came after the ask,
abbrev pub GetsShow : List (List Written) → List Held → List Written → List Going → List Execution
    → Type 0
GetsShow before resources h flights taken =
    (n t c k : ℕ) (js : List ℕ) (m : Content) → IsEntry h n t (Answers c k (Live js))
    → (r : RestsOn h n c k js) → r.messages ≡ m ∷ []
    → r.request.method ≡ 1 → r.request.peer ≡ device_at → m.code ≡ 69 → values 23 m.options ≡ []
    → ShowsHeld before h k r.opening r.request r.request t resources flights taken m.payload

-- one of what was stored, which a 2.03 renewed for it: it was heard so first,
abbrev pub RenewedShow : List (List Written) → List Held → List Written → List Going
    → List Execution → Type 0
RenewedShow before resources h flights taken =
    (n t c k : ℕ) (js : List ℕ) (m : Content) → IsEntry h n t (Answers c k (Live js))
    → (r : RestsOnRenewed h n c k js) → r.was.whole.messages ≡ m ∷ []
    → r.request.peer ≡ device_at → m.code ≡ 69 → values 23 m.options ≡ []
    → ShowsFirst before h k r.request r.was.first r.was.whole t resources flights taken m.payload

-- and one of a response that was stored.
abbrev pub KeptShow : List (List Written) → List Held → List Written → List Going → List Execution
    → Type 0
KeptShow before resources h flights taken =
    (n t c k : ℕ) (js : List ℕ) (m : Content) → IsEntry h n t (Answers c k (Kept js))
    → (s : IsServed h t c k js) → s.is.whole.messages ≡ m ∷ []
    → s.request.peer ≡ device_at → m.code ≡ 69 → values 23 m.options ≡ []
    → ShowsFirst before h k s.request s.is.first s.is.whole t resources flights taken m.payload

-- So it is of each of these journals, where those before it are told.
abbrev pub EachAfter : (List (List Written) → List Written → Type 0) → List (List Written)
    → List (List Written) → Type 0
EachAfter P before [] = ⊤
EachAfter P before (h ∷ hs) = P before h × EachAfter P (before ++ h ∷ []) hs

-- the journals of a story: those that were given out, in their order, and the last
abbrev pub journals : List Emission → List Written → List (List Written)
journals out last = map journal_in (parts_of out last)

-- So it is of each journal, where the proxy looks at its timers each second.
abbrev pub GetsShowInTime : List Turn → List Held → List Emission → List Written → List Going
    → List Execution → Type 0
GetsShowInTime turns resources out last flights taken =
    LooksInTime turns
    → EachAfter (λ (before : List (List Written)) (h : List Written).
    GetsShow before resources h flights taken × RenewedShow before resources h flights taken
    × KeptShow before resources h flights taken) [] (journals out last)

-- ---- a state in one piece or in several (RFC 7959)

-- Each answer to a GET that rests on one whole 2.05 shows such a state: an answer to replies that
-- came after the ask,
abbrev pub GetsShowWhole : List (List Written) → List Held → List Written → List Going
    → List Execution → Type 0
GetsShowWhole before resources h flights taken =
    (n t c k : ℕ) (js : List ℕ) → IsEntry h n t (Answers c k (Live js)) → (r : RestsOn h n c k js)
    → r.request.method ≡ 1 → r.request.peer ≡ device_at → r.response.code ≡ 69
    → ShowsHeld before h k r.opening r.request r.request t resources flights taken r.response.body

-- one of what was stored, which a 2.03 renewed for it,
abbrev pub RenewedShowWhole : List (List Written) → List Held → List Written → List Going
    → List Execution → Type 0
RenewedShowWhole before resources h flights taken =
    (n t c k : ℕ) (js : List ℕ) → IsEntry h n t (Answers c k (Live js))
    → (r : RestsOnRenewed h n c k js) → r.request.peer ≡ device_at
    → ShowsFirst before h k r.request r.was.first r.was.whole t resources flights taken
    r.stored.response.body

-- and one of a response that was stored.
abbrev pub KeptShowWhole : List (List Written) → List Held → List Written → List Going
    → List Execution → Type 0
KeptShowWhole before resources h flights taken =
    (n t c k : ℕ) (js : List ℕ) → IsEntry h n t (Answers c k (Kept js)) → (s : IsServed h t c k js)
    → s.request.peer ≡ device_at
    → ShowsFirst before h k s.request s.is.first s.is.whole t resources flights taken
    s.stored.response.body

-- So it is of each journal, where the proxy looks at its timers each second.
abbrev pub WholesShowInTime : List Turn → List Held → List Emission → List Written → List Going
    → List Execution → Type 0
WholesShowInTime turns resources out last flights taken =
    LooksInTime turns
    → EachAfter (λ (before : List (List Written)) (h : List Written).
    GetsShowWhole before resources h flights taken
    × RenewedShowWhole before resources h flights taken
    × KeptShowWhole before resources h flights taken) [] (journals out last)
