-- What a proxy does, one act after another: each is one step of its core or of its connections.
use Rattle.std.specs.Prelude.{◌≡◌, ◌≢◌, ◌⊎◌, ℕ, Bool, true, false, List, [], ◌∷◌, ◌++◌, codes, Ok, Err, Some, None}
use Rattle.std.specs.List.{AllByRecursion}
use Rattle.uri_map.specs.declared.peer.Peer.{Peer}
use Rattle.http_edge.specs.Answers.{answer_text}
use Rattle.http_edge.specs.declared.answer.HttpAnswer.{HttpAnswer}
use Rattle.http_edge.specs.Reading.{Item, asked, bad}
use Rattle.ask_model.specs.Requests.{Came, Whole, Bad}
use Rattle.ask_model.specs.Views.{Ask}
use Rattle.http_mapping.specs.Limits.{limited}
use Rattle.http_mapping.specs.Means.{closes}
use Rattle.exchange_model.specs.Resting.{HasConn}
use Rattle.exchange_model.specs.Room.{KeptInRoom}
use Rattle.exchange_model.specs.Sealing.{ticks_in_room}
use Rattle.exchange_core.specs.declared.fault.OpenFault.TheVariants as Open
use Rattle.exchange_core.specs.declared.fault.AskFault.TheVariants as AskFault
use Rattle.exchange_core.specs.Answering.{Given}
use Rattle.exchange_core.specs.Calls.{now, IsOpened, IsAsked, IsClosed, IsUnknown, HearsSo}
use Rattle.exchange_core.specs.Taking.{IsTaken, IsSent}
use Rattle.exchange_core.specs.Values.{CoreValue, Outgoing, Untaken, stepped}
use Rattle.gateway_model.specs.declared.input.When.{When}
use Rattle.gateway_model.specs.Emissions.{Emission, Says, Goes, Closed, GivenUp, Turned}
use Rattle.gateway_model.specs.Unasked.{Unasked, unasked_at, no_bytes, without, taken, TakesItem, TellsToGoOn, Recounts, IsReadOut}

-- a core, and the bytes that aren't asked yet of the connections that it serves
pub record Served : Type 0 where
  pub core : CoreValue
  pub unasked : List Unasked

-- as what a request may be asked, and which HTTP response may tell an answer
pub record Terms : Type 1 where
  pub IsMeaning : Ask → Type 0
  pub IsTelling : Given → HttpAnswer → Type 0

pub data Act : Type 0 where
  -- a connection is opened; or its client is turned away
  Opens : ℕ → Act
  TurnsAway : Act
  -- bytes of a connection come in; a datagram does; time goes on
  Takes : ℕ → List ℕ → Act
  Hears : Peer → List ℕ → Act
  Passes : Act
  -- what stands first in the bytes of a connection is asked; or the journal takes it no more, and
  -- the connection is closed
  Asks : ℕ → Act
  Denies : ℕ → Act
  -- a datagram goes out
  Sends : Act
  -- a connection is told the answer to this ask; or to go on with its body
  Tells : ℕ → ℕ → Act
  GoesOn : ℕ → Act
  -- memory is refused for what a connection asks, or for the answer to this ask, which nobody is
  -- told then: the connection is closed
  GivesUp : ℕ → Act
  Forgoes : ℕ → ℕ → Act
  -- nothing more of a connection's bytes can be asked now, and those that wait unread are counted
  Rests : ℕ → Act
  -- the client of a connection closes it; or there is no such connection
  Leaves : ℕ → Act
  Misses : ℕ → Act

-- the moment that counts at an act
abbrev pub at : When → Served → ℕ
at w s = now s.core.state.moment w.moment

-- what an item of a text brings: a request, too large a one, or bytes that are none
abbrev pub came_at : Item → Came
came_at (asked r) = limited (Whole r)
came_at (bad kind) = limited (Bad kind)

-- What a client that waits with its body is told (RFC 9110 section 10.1.1).
abbrev pub continue_text : List ℕ
continue_text = codes "HTTP/1.1 100 Continue\r\n\r\n"

-- Each answer to the connection was told.
abbrev pub IsAllTold : ℕ → CoreValue → Type 0
IsAllTold c v = AllByRecursion (λ (u : Untaken). u.conn ≢ c) v.untaken

-- What the connection asks next is its turn: it waits for no answer, and each that came was told.
pub record IsNext (c : ℕ) (v : CoreValue) : Type 0 where
  pub idle : HasConn v.state.conns c None
  pub told : IsAllTold c v

-- What stands first is taken off the connection's text, and it is asked what that means.
pub record AsksItem (M : Terms) (c : ℕ) (ask : Ask) (old new : Served) : Type 0 where
  pub item : Item
  pub reads : TakesItem c item old.unasked new.unasked
  pub came : ask.came ≡ came_at item
  pub meant : M.IsMeaning ask

-- It is asked once the answer before it was told (RFC 9112 section 9.3.2).
pub record IsAsking (M : Terms) (w : When) (c : ℕ) (old new : Served) : Type 0 where
  pub told : IsAllTold c old.core
  pub ask : Ask
  pub reads : AsksItem M c ask old new
  pub number : ℕ
  pub asked : IsAsked (Ok number) (at w old) w.word c ask old.core new.core

-- Or the journal takes it no more.
pub record IsDenying (M : Terms) (w : When) (c : ℕ) (old new : Served) : Type 0 where
  pub answered : IsAllTold c old.core
  pub ask : Ask
  pub reads : AsksItem M c ask old new
  pub denied : IsAsked (Err AskFault.Sealed) (at w old) w.word c ask old.core new.core

-- A connection that is open is closed, and nothing of its bytes is left.
abbrev pub IsClosing : When → ℕ → Served → Served → Type 0
IsClosing w c old new =
    IsClosed (at w old) c old.core new.core × (new.unasked ≡ without c old.unasked)

-- The first datagram that waits goes out.
pub record IsSending (old : Served) (out : List Emission) (new : Served) : Type 0 where
  pub datagram : Outgoing
  pub sent : IsSent (Some datagram) old.core new.core
  pub unasked : new.unasked ≡ old.unasked
  pub given : out ≡ Goes datagram ∷ []

-- After the answer to its last request a connection is closed (RFC 9112 section 9.6).
abbrev pub Ends : When → ℕ → Bool → Served → List Emission → Served → Type 0
Ends w c true old out new = IsClosing w c old new × (out ≡ Closed c ∷ [])
Ends w c false old out new = (new ≡ old) × (out ≡ [])

-- The answer to the ask is taken, and its connection gets the bytes of a response that tells it. No
-- datagram waits then: those of the step went out before.
pub record IsTelling (M : Terms) (w : When) (c k : ℕ) (old : Served) (out : List Emission)
    (new : Served) : Type 0 where
  pub sent : old.core.unsent ≡ []
  pub answer : Given
  pub conn : answer.conn ≡ c
  pub told : Served
  pub taken : IsTaken (Some answer) k old.core told.core
  pub unasked : told.unasked ≡ old.unasked
  pub response : HttpAnswer
  pub tells : M.IsTelling answer response
  pub after : List Emission
  pub ends : Ends w c (closes answer.mapping.came) told after new
  pub given : out ≡ Says c (answer_text response) ∷ after

-- The answer to the ask is taken, and nobody is told it.
pub record IsForgoing (c k : ℕ) (old new : Served) : Type 0 where
  pub answer : Given
  pub own : answer.conn ≡ c
  pub taken : IsTaken (Some answer) k old.core new.core
  pub unasked : new.unasked ≡ old.unasked

-- The connection isn't open, or waits for an answer, or its bytes hold no request to be asked.
abbrev pub RestsAt : ℕ → Served → Type 0
RestsAt c s =
    (HasConn s.core.state.conns c None → ⊥) ⊎ IsReadOut (unasked_at c s.unasked)

-- An act leads from one to the other, and gives this out. What is heard, and time, come once all
-- answers before were told.
abbrev pub Does : Terms → When → Act → Served → List Emission → Served → Type 0
Does M w (Opens c) old out new =
    IsOpened (Ok c) (at w old) old.core new.core
    × (new.unasked ≡ old.unasked ++ no_bytes c ∷ []) × (out ≡ [])
Does M w TurnsAway old out new =
    (IsOpened (Err Open.Full) (at w old) old.core new.core
    ⊎ IsOpened (Err Open.Sealed) (at w old) old.core new.core)
    × (new.unasked ≡ old.unasked) × (out ≡ Turned ∷ [])
Does M w (Takes c bytes) old out new =
    (new ≡ record old { unasked = taken c bytes old.unasked }) × (out ≡ [])
Does M w (Hears p bytes) old out new =
    HearsSo (at w old) w.word p bytes old.core new.core × (new.unasked ≡ old.unasked)
    × (out ≡ []) × (old.core.untaken ≡ []) × KeptInRoom old.core.state
Does M w Passes old out new =
    (new ≡ record old { core = stepped (ticks_in_room (at w old) old.core.state) old.core })
    × (out ≡ []) × (old.core.untaken ≡ []) × KeptInRoom old.core.state
Does M w (Asks c) old out new = IsAsking M w c old new × (out ≡ [])
Does M w (Denies c) old out new =
    (mid : Served) × IsDenying M w c old mid × IsClosing w c mid new × (out ≡ Closed c ∷ [])
Does M w Sends old out new = IsSending old out new
Does M w (Tells c k) old out new = IsTelling M w c k old out new
Does M w (GoesOn c) old out new =
    TellsToGoOn c old.unasked new.unasked × (new.core ≡ old.core)
    × (out ≡ Says c continue_text ∷ []) × IsNext c old.core
Does M w (GivesUp c) old out new =
    IsClosing w c old new × (out ≡ GivenUp c ∷ []) × IsAllTold c old.core
Does M w (Forgoes c k) old out new =
    (mid : Served) × IsForgoing c k old mid × IsClosing w c mid new × (out ≡ GivenUp c ∷ [])
Does M w (Rests c) old out new =
    (new.core ≡ old.core) × (out ≡ []) × Recounts c old.unasked new.unasked × RestsAt c new
Does M w (Leaves c) old out new = IsClosing w c old new × (out ≡ [])
Does M w (Misses c) old out new = (new ≡ old) × (out ≡ []) × IsUnknown c old.core

-- Acts done one after another, and all that they give out.
abbrev pub DoesAll : Terms → When → List Act → Served → List Emission → Served → Type 0
DoesAll M w [] old out new = (new ≡ old) × (out ≡ [])
DoesAll M w (a ∷ acts) old out new =
    (mid : Served) × (first : List Emission) × (rest : List Emission)
    × Does M w a old first mid × DoesAll M w acts mid rest new × (out ≡ first ++ rest)
