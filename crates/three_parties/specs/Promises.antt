-- What a story promises of the requests that change something.
use Rattle.std.specs.Prelude.{◌≡◌, ◌≢◌, ℕ, ◌≤◌, ◌/◌, List, [], ◌∷◌, ◌++◌, slice_get, Option, Some}
use Rattle.coap_codec.specs.Spelling.{Content, Spells}
use Rattle.coap_codec.specs.declared.block.Block.{Block}
use Rattle.uri_map.specs.declared.peer.Peer.{Peer}
use Rattle.ask_model.specs.Requests.{CoapRequest}
use Rattle.journal_book.specs.Entries.{Live, Answers, Written}
use Rattle.history_claims.specs.Headline.{IsEntry, IsFirstSending, IsHeardFor, RestsOn}
use Rattle.history_claims.specs.Order.{AreSentFor}
use Rattle.gateway_model.specs.Emissions.{Emission}
use Rattle.gateway_model.specs.declared.input.Happening.TheVariants as H
use Rattle.gateway_world.specs.Journals.{EachJournal}
use Rattle.three_parties.specs.Flights.{Going, ByProxy, device_at}
use Rattle.three_parties.specs.Ticks.{LooksInTime}
use Rattle.three_parties.specs.declared.story.Execution.{Execution}
use Rattle.three_parties.specs.declared.turn.Turn.{Turn}
use Rattle.three_parties.specs.declared.turn.Turn.TheVariants as T

-- The execution is of this message: the datagram that was delivered spells it.
pub record IsOf (flights : List Going) (m : Content) (x : Execution) : Type 0 where
  pub flight : Going
  pub stands : slice_get flights x.number ≡ Some flight
  pub by : flight.by ≡ ByProxy
  pub spelled : Spells m flight.bytes

-- For the request q, asked in the entry k, a message was sent: it, or a piece of its body, of which
-- a device executes the last alone. The last of these entries heard the reply to it. The device
-- executed this message, and just once.
pub record IsExecutedOnce (h : List Written) (k : ℕ) (q : CoapRequest) (js : List ℕ)
    (flights : List Going) (taken : List Execution) : Type 0 where
  pub since : ℕ
  pub not_before : k ≤ since
  pub block : Option Block
  pub earlier : List ℕ
  pub last : ℕ
  pub are : js ≡ earlier ++ last ∷ []
  pub message : Content
  pub reply : IsHeardFor h since q block last message
  pub place : ℕ
  pub execution : Execution
  pub stands : slice_get taken place ≡ Some execution
  pub its : IsOf flights reply.sent execution
  pub once : (b : ℕ) (y : Execution) → slice_get taken b ≡ Some y → IsOf flights reply.sent y
      → b ≡ place

-- Each POST (method 2) to the device that was answered by success was executed exactly once, by the
-- message to which its reply came.
abbrev pub AreExecuted : List Written → List Going → List Execution → Type 0
AreExecuted h flights taken =
    (n t c k : ℕ) (js : List ℕ) → IsEntry h n t (Answers c k (Live js)) → (r : RestsOn h n c k js)
    → r.request.method ≡ 2 → r.request.peer ≡ device_at → r.response.code / 32 ≡ 2
    → IsExecutedOnce h r.opening r.request js flights taken

-- Of two such answers the executions differ.
abbrev pub AreExecutedApart : List Written → List Going → List Execution → Type 0
AreExecutedApart h flights taken =
    (n t c k m u d o : ℕ) (js ls : List ℕ) → IsEntry h n t (Answers c k (Live js))
    → IsEntry h m u (Answers d o (Live ls)) → (r : RestsOn h n c k js) → (s : RestsOn h m d o ls)
    → r.request.method ≢ 1 → r.request.peer ≡ s.request.peer
    → (x : IsExecutedOnce h r.opening r.request js flights taken)
    → (y : IsExecutedOnce h s.opening s.request ls flights taken) → x.place ≡ y.place → n ≡ m

-- Whatever it was answered, and if it wasn't, each request but a GET was executed at most once: a
-- table says for which ask each message was sent, and of those for one ask at most one was executed,
-- once.
pub record AreAtMostOnce (h : List Written) (flights : List Going) (taken : List Execution)
    : Type 0 where
  pub sent : AreSentFor h
  pub once : (i j t u : ℕ) (p r : Peer) (m n : Content) (a b : ℕ) (x y : Execution)
      → IsFirstSending h i t p m → IsFirstSending h j u r n → m.code ≢ 1 → n.code ≢ 1
      → sent.owner i ≡ sent.owner j → slice_get taken a ≡ Some x → slice_get taken b ≡ Some y
      → IsOf flights m x → IsOf flights n y → a ≡ b

pub record PostsOnce (h : List Written) (flights : List Going) (taken : List Execution) : Type 0
  where
    pub executed : AreExecuted h flights taken
    pub apart : AreExecutedApart h flights taken
    pub at_most : AreAtMostOnce h flights taken

-- So it is of each journal, those that were given out and the last, where the proxy looks at its
-- timers each second.
abbrev pub PostsOnceInTime
    : List Turn → List Emission → List Written → List Going → List Execution → Type 0
PostsOnceInTime turns out last flights taken =
    LooksInTime turns → EachJournal (λ (h : List Written). PostsOnce h flights taken) out last
