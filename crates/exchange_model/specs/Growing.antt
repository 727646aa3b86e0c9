-- What each call adds to the journal, each entry at its moment, and what that does to the
-- connections.
use Rattle.std.specs.Prelude.{◌≡◌, ◌≢◌, ◌⊎◌, ℕ, ◌+◌, ◌<◌, ◌≤◌, Bool, true, false, List, [], ◌∷◌, ◌++◌, length, slice_get, Option, Some, is_some, ⊤}
use Rattle.std.specs.List.{AllByRecursion, Contains}
use Rattle.coap_codec.specs.Spelling.{Content, Spells}
use Rattle.uri_map.specs.declared.peer.Peer.{Peer}
use Rattle.resp_cache.specs.Stored.{Stored}
use Rattle.resp_cache.specs.declared.pair.Pair.{Pair}
use Rattle.ask_model.specs.Requests.{CoapRequest, Requests}
use Rattle.ask_model.specs.Views.{Ask}
use Rattle.journal_book.specs.Entries.{Ground, Heard, Deed, Opens, Asks, Sends, Hears, Answers, Shuts, Seals, Carries, Written}
use Rattle.history_laws.specs.Readings.{carries}
use Rattle.history_laws.specs.Responses.{Response, confirms, renewed_response, response_of, whole_fetched}
use Rattle.exchange_model.specs.declared.kept.Conn.{Conn}
use Rattle.exchange_model.specs.declared.kept.Exchange.{Exchange}
use Rattle.exchange_model.specs.declared.kept.Reader.{Reader}
use Rattle.exchange_model.specs.declared.kept.Work.{Work}
use Rattle.exchange_model.specs.declared.kept.Work.TheVariants as W
use Rattle.exchange_model.specs.State.{State, conns_after}
use Rattle.exchange_model.specs.Steps.{shuts, seals}
use Rattle.exchange_model.specs.Matters.{stale_in}
use Rattle.exchange_model.specs.Hearing.{Numbers}
use Rattle.exchange_model.specs.Calls.{is_reader_of}
use Rattle.exchange_model.specs.Room.{KeptInRoom}
use Rattle.exchange_model.specs.Sealing.{opens_in_room, asks_in_room, hears_in_room, late, ticks_in_room}

-- what entries do to the connections, the first of which has this number
abbrev pub conns_with : List Conn → ℕ → List Written → List Conn
conns_with cs n [] = cs
conns_with cs n (w ∷ ws) = conns_with (conns_after cs n w.deed) (n + 1) ws

-- A step at this moment adds to the journal, and no copies, and gives nothing of it out; and the
-- connections follow from what it adds.
pub record Adds (t : ℕ) (S S1 : State) : Type 0 where
  pub more : List Written
  pub entries : S1.entries ≡ S.entries ++ more
  pub given : S1.given ≡ S.given
  pub kept : S1.kept ≡ S.kept
  pub at : AllByRecursion (λ (w : Written). w.moment ≡ t) more
  pub own : AllByRecursion (λ (w : Written). carries w.deed ≡ false) more
  pub conns : S1.conns ≡ conns_with S.conns (length S.entries) more

abbrev pub OpensAdd : Type 0
OpensAdd = (t : ℕ) (S : State) → Adds t S (opens_in_room t S)

abbrev pub ShutsAdd : Type 0
ShutsAdd = (t c : ℕ) (S : State) → Adds t S (shuts t c S)

abbrev pub SealsAdd : Type 0
SealsAdd = (t : ℕ) (S : State) → Adds t S (seals t S)

abbrev pub AsksAdd : Type 0
AsksAdd = (t c : ℕ) (a : Ask) (n : Numbers) (S : State) → Adds t S (asks_in_room t c a n S)

abbrev pub HearsAdd : Type 0
HearsAdd =
    (t : ℕ) (p : Peer) (d : List ℕ) (n : Numbers) (S : State) → Adds t S (hears_in_room t p d n S)

abbrev pub LateAdds : Type 0
LateAdds = (t : ℕ) (S : State) → Adds t S (late t S)

abbrev pub TicksAdd : Type 0
TicksAdd = (t : ℕ) (S : State) → Adds t S (ticks_in_room t S)

-- an entry
abbrev pub at_moment : ℕ → Deed → Written
at_moment t d = record { moment = t; deed = d }

-- Opening adds nothing, or the connection, or the seal.
abbrev pub OpensAlone : Type 0
OpensAlone =
    (t : ℕ) (S : State) (x : Adds t S (opens_in_room t S))
    → (x.more ≡ [])
    ⊎ ((x.more ≡ at_moment t (Opens S.opened) ∷ []) ⊎ (x.more ≡ at_moment t Seals ∷ []))

-- An ask of a connection, under this number, adds itself, messages, its own answer, or the seal.
abbrev pub IsOfAsk : ℕ → ℕ → Ask → Deed → Type 0
IsOfAsk k c a (Asks d b) = (d ≡ c) × (b ≡ a)
IsOfAsk k c a (Sends p bytes timeout) = ⊤
IsOfAsk k c a (Answers d j g) = (d ≡ c) × (j ≡ k)
IsOfAsk k c a Seals = ⊤
IsOfAsk k c a _ = ⊥

abbrev pub AsksAnswer : Type 0
AsksAnswer =
    (t c : ℕ) (a : Ask) (n : Numbers) (S : State) (x : Adds t S (asks_in_room t c a n S))
    → AllByRecursion (λ (w : Written). IsOfAsk (length S.entries) c a w.deed) x.more

-- What is heard, and a tick, add nothing that a client does.
abbrev pub by_client : Deed → Bool
by_client (Opens c) = true
by_client (Asks c a) = true
by_client (Shuts c) = true
by_client _ = false

abbrev pub HasNoClient : List Written → Type 0
HasNoClient ws = AllByRecursion (λ (w : Written). by_client w.deed ≡ false) ws

abbrev pub HearsAnswer : Type 0
HearsAnswer =
    (t : ℕ) (p : Peer) (d : List ℕ) (n : Numbers) (S : State)
    (x : Adds t S (hears_in_room t p d n S))
    → HasNoClient x.more

abbrev pub TicksAnswer : Type 0
TicksAnswer = (t : ℕ) (S : State) (x : Adds t S (ticks_in_room t S)) → HasNoClient x.more

-- The connections stand in the order in which they were opened, each under a number of its own.
abbrev pub ConnsBelow : Type 0
ConnsBelow =
    (S : State) → KeptInRoom S → AllByRecursion (λ (x : Conn). x.id < S.opened) S.conns

abbrev pub Rise : List Conn → Type 0
Rise [] = ⊤
Rise (x ∷ xs) = AllByRecursion (λ (y : Conn). x.id < y.id) xs × Rise xs

abbrev pub ConnsRise : Type 0
ConnsRise = (S : State) → KeptInRoom S → Rise S.conns

-- Who waits stands in the order of asks, each with an ask of its own.
abbrev pub RiseByAsk : List Reader → Type 0
RiseByAsk [] = ⊤
RiseByAsk (x ∷ xs) = AllByRecursion (λ (y : Reader). x.ask < y.ask) xs × RiseByAsk xs

abbrev pub ReadersRise : Type 0
ReadersRise = (S : State) → KeptInRoom S → RiseByAsk S.readers

-- What is kept of a GET is what it fetches, and of any other request how much of its body was
-- taken.
abbrev pub IsWorkOf : CoapRequest → Work → Type 0
IsWorkOf q (W.Fetches restarts pieces) = q.method ≡ 1
IsWorkOf q (W.Gives upload) = (q.method ≢ 1) × (upload.len ≡ length q.body)

-- What is fetched is begun anew three times at most.
abbrev pub IsFewTimes : Work → Type 0
IsFewTimes (W.Fetches restarts pieces) = restarts ≤ 3
IsFewTimes (W.Gives upload) = ⊤

-- A reader's ask stands in the journal, for what the exchange asks.
pub record IsKnown (S : State) (r : Reader) : Type 0 where
  pub moment : ℕ
  pub ask : Ask
  pub request : CoapRequest
  pub stands : slice_get S.entries r.ask ≡ Some (at_moment moment (Asks r.conn ask))
  pub sense : ask.sense ≡ Requests request
  pub method :
      (e : Exchange) → Contains S.exchanges e → is_reader_of e r ≡ true
      → request.method ≡ e.method
  pub work :
      (e : Exchange) → Contains S.exchanges e → is_reader_of e r ≡ true → IsWorkOf request e.work

abbrev pub ReadersKnown : Type 0
ReadersKnown = (S : State) → KeptInRoom S → AllByRecursion (IsKnown S) S.readers

-- These entries of the journal heard these messages, one by one.
pub record IsHeardAt (S : State) (n : ℕ) (m : Content) : Type 0 where
  pub moment : ℕ
  pub peer : Peer
  pub bytes : List ℕ
  pub stands : slice_get S.entries n ≡ Some (at_moment moment (Hears peer bytes))
  pub spelled : Spells m bytes

abbrev pub AreHeardAt : State → List ℕ → List Content → Type 0
AreHeardAt S [] [] = ⊤
AreHeardAt S (n ∷ ns) (m ∷ ms) = IsHeardAt S n m × AreHeardAt S ns ms
AreHeardAt S _ _ = ⊥

-- Or they are copies of such, on which an answer may rest.
pub record IsCopiedAt (S : State) (n : ℕ) (m : Content) : Type 0 where
  pub moment : ℕ
  pub number : ℕ
  pub peer : Peer
  pub bytes : List ℕ
  pub stands : slice_get S.entries n
      ≡ Some (at_moment moment (Carries number Ground (Heard peer bytes)))
  pub spelled : Spells m bytes

abbrev pub AreCopiedAt : State → List ℕ → List Content → Type 0
AreCopiedAt S [] [] = ⊤
AreCopiedAt S (n ∷ ns) (m ∷ ms) = IsCopiedAt S n m × AreCopiedAt S ns ms
AreCopiedAt S _ _ = ⊥

-- the first of them at this moment
abbrev pub AreHeardFrom : State → ℕ → List ℕ → List Content → Type 0
AreHeardFrom S t (n ∷ ns) (m ∷ ms) = (h : IsHeardAt S n m) × (h.moment ≡ t) × AreHeardAt S ns ms
AreHeardFrom S t _ _ = ⊥

abbrev pub AreCopiedFrom : State → ℕ → List ℕ → List Content → Type 0
AreCopiedFrom S t (n ∷ ns) (m ∷ ms) = (h : IsCopiedAt S n m) × (h.moment ≡ t) × AreCopiedAt S ns ms
AreCopiedFrom S t _ _ = ⊥

-- What is stored under a key was heard whole, in this journal or before it, in reply to a GET: at
-- that moment the first of it.
pub record IsHeardIn (S : State) (p : Pair) : Type 0 where
  pub number : ℕ
  pub others : List ℕ
  pub message : Content
  pub more : List Content
  pub list : p.stored.list ≡ number ∷ others
  pub heard : AreHeardFrom S p.stored.heard (number ∷ others) (message ∷ more)
      ⊎ AreCopiedFrom S p.stored.heard (number ∷ others) (message ∷ more)
  pub whole : whole_fetched message more ≡ Some p.stored.response

-- A 2.03 was heard that says that what has this ETag is valid still, and names this format.
pub record IsNamedIn (S : State) (tag : Option (List ℕ)) (format : Option ℕ) : Type 0 where
  pub number : ℕ
  pub message : Content
  pub heard : IsHeardAt S number message
  pub says : confirms tag message ≡ true
  pub names : (response_of message).format ≡ format
  pub some : is_some format ≡ true

-- What an exchange keeps was heard whole: all but Max-Age and format is as it was heard, and the
-- format is so too, or was named by a 2.03.
pub record IsKeptIn (S : State) (s : Stored) : Type 0 where
  pub message : Content
  pub more : List Content
  pub heard : AreHeardAt S s.list (message ∷ more) ⊎ AreCopiedAt S s.list (message ∷ more)
  pub response : Response
  pub whole : whole_fetched message more ≡ Some response
  pub renewed : s.response
      ≡ record response { format = s.response.format; max_age = s.response.max_age }
  pub format : (s.response.format ≡ response.format)
      ⊎ IsNamedIn S s.response.etag s.response.format

-- What is renewed was kept so, and the last of its list is the 2.03 by which it was renewed: at
-- that moment.
pub record IsRenewedIn (S : State) (p : Pair) : Type 0 where
  pub kept : Stored
  pub was : IsKeptIn S kept
  pub number : ℕ
  pub renewal : Content
  pub list : p.stored.list ≡ kept.list ++ number ∷ []
  pub confirmed : (h : IsHeardAt S number renewal) × (h.moment ≡ p.stored.heard)
  pub says : confirms kept.response.etag renewal ≡ true
  pub opening : p.stored.opening ≡ kept.opening
  pub renewed : p.stored.response ≡ renewed_response kept.response renewal

abbrev pub StoreHeard : Type 0
StoreHeard =
    (S : State) → KeptInRoom S
    → AllByRecursion (λ (p : Pair). IsHeardIn S p ⊎ IsRenewedIn S p) S.store

-- So was what an open exchange asks about.
abbrev pub StalesHeard : Type 0
StalesHeard =
    (S : State) → KeptInRoom S → (e : Exchange) (s : Stored) → Contains S.exchanges e
    → stale_in e.opening S.stales ≡ Some s → IsKeptIn S s
