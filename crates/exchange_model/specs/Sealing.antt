-- A step that doesn't fit seals the journal, and is otherwise undone.
use Rattle.std.specs.Prelude.{◌≡◌, ℕ, ◌+◌, ◌<◌, ◌≤◌, true, is_some, List, filter, fold, length, Option, None, if◌then◌else◌, ◌++◌, ⊤}
use Rattle.std.specs.List.{AllByRecursion}
use Rattle.limits.specs.declared.TheConstants.{MAX_MESSAGE_LEN, MAX_REQUEST_SIZE, MAX_TRANSMIT_WAIT}
use Rattle.uri_map.specs.declared.peer.Peer.{Peer}
use Rattle.ask_model.specs.Requests.{CoapRequest, Requests}
use Rattle.ask_model.specs.Views.{Ask}
use Rattle.ask_model.specs.Sizes.{came_size}
use Rattle.journal_book.specs.Entries.{Deed, Answers, Written}
use Rattle.exchange_model.specs.declared.kept.Reader.{Reader}
use Rattle.exchange_model.specs.declared.kept.Exchange.{Exchange}
use Rattle.exchange_model.specs.State.{State}
use Rattle.exchange_model.specs.Steps.{opens, shuts, seals}
use Rattle.exchange_model.specs.Hearing.{is_past, Numbers}
use Rattle.exchange_model.specs.Resting.{HasConn}
use Rattle.exchange_model.specs.Calls.{has_place, IsAlone, asked, goes_by, is_reader_of, tells, told_late, heard, ticked}
use Rattle.exchange_model.specs.Keeping.{start, IsProper, IsNumbered, MayGoOn}
use Rattle.exchange_model.specs.Room.{fits, KeptInRoom}

-- a step from one state to another
abbrev pub in_room : ℕ → State → State → State
in_room t new old = if fits new then new else seals t old

-- After the seal nothing is opened, asked or heard.
abbrev pub if_unsealed : ℕ → State → State → State
if_unsealed t new old = if old.sealed then old else in_room t new old

abbrev pub opens_in_room : ℕ → State → State
opens_in_room t S = if_unsealed t (opens t S) S

abbrev pub asks_in_room : ℕ → ℕ → Ask → Numbers → State → State
asks_in_room t c a n S = if_unsealed t (asked t c a n S) S

abbrev pub hears_in_room : ℕ → Peer → List ℕ → Numbers → State → State
hears_in_room t p d n S = if_unsealed t (heard t p d n S) S

-- A tick of a sealed core answers the asks whose exchanges have been open for as long as they may,
-- by rising ask.
abbrev pub late : ℕ → State → State
late t S = fold (tells t) S (told_late (filter (is_past t) S.exchanges) S.readers)

abbrev pub ticks_in_room : ℕ → State → State
ticks_in_room t S =
    if S.sealed then late t S else
    (let new = ticked t S in if fits new then new else late t (seals t S))

-- Each call keeps that the journal stands and is within its limits.
abbrev pub StartInRoom : Type 0
StartInRoom = KeptInRoom start

abbrev pub OpensInRoom : Type 0
OpensInRoom = (t : ℕ) (S : State) → KeptInRoom S → S.moment ≤ t → KeptInRoom (opens_in_room t S)

-- A connection may be shut in a sealed journal too, and what it needs was held free.
abbrev pub ShutsInRoom : Type 0
ShutsInRoom =
    (t c : ℕ) (p : Option ℕ) (S : State)
    → KeptInRoom S → S.moment ≤ t → HasConn S.conns c p → KeptInRoom (shuts t c S)

-- A request and its message have the sizes that they may.
pub record IsSized (a : Ask) (n : Numbers) : Type 0 where
  pub request : came_size a.came ≤ MAX_REQUEST_SIZE
  pub message : length n.text ≤ MAX_MESSAGE_LEN

abbrev pub AsksInRoom : Type 0
AsksInRoom =
    (t c : ℕ) (a : Ask) (n : Numbers) (S : State)
    → KeptInRoom S → S.moment ≤ t → HasConn S.conns c None → IsProper a.sense
    → ((q : CoapRequest) → a.sense ≡ Requests q → IsAlone t q S → has_place t q.peer S ≡ true
    → IsNumbered t a q n S)
    → IsSized a n
    → KeptInRoom (asks_in_room t c a n S)

abbrev pub HearsInRoom : Type 0
HearsInRoom =
    (t : ℕ) (p : Peer) (d : List ℕ) (n : Numbers) (S : State)
    → KeptInRoom S → S.moment ≤ t → AllByRecursion (λ (b : ℕ). b < 256) d → MayGoOn t p d n S
    → (is_some (goes_by t p d S) ≡ true → length n.text ≤ MAX_MESSAGE_LEN)
    → KeptInRoom (hears_in_room t p d n S)

abbrev pub TicksInRoom : Type 0
TicksInRoom = (t : ℕ) (S : State) → KeptInRoom S → S.moment ≤ t → KeptInRoom (ticks_in_room t S)

-- After a tick, sealed or not, nobody waits for an exchange that is past.
abbrev pub IsPrompt : ℕ → List Exchange → Reader → Type 0
IsPrompt t es r =
    AllByRecursion
    (λ (e : Exchange). is_reader_of e r ≡ true → t < e.since + MAX_TRANSMIT_WAIT) es

abbrev pub ArePrompt : ℕ → State → Type 0
ArePrompt t S = AllByRecursion (IsPrompt t S.exchanges) S.readers

abbrev pub TicksPromptly : Type 0
TicksPromptly = (t : ℕ) (S : State) → KeptInRoom S → S.moment ≤ t → ArePrompt t (ticks_in_room t S)

-- After the seal a tick adds answers alone, and changes nothing but who waits.
abbrev pub IsAnswer : Deed → Type 0
IsAnswer (Answers c k g) = ⊤
IsAnswer _ = ⊥

pub record AnswersAlone (S S1 : State) : Type 0 where
  pub answers : List Written
  pub entries : S1.entries ≡ S.entries ++ answers
  pub are : AllByRecursion (λ (w : Written). IsAnswer w.deed) answers
  pub sealed : S1.sealed ≡ S.sealed
  pub opened : S1.opened ≡ S.opened
  pub issued : S1.issued ≡ S.issued
  pub exchanges : S1.exchanges ≡ S.exchanges
  pub pieces : S1.pieces ≡ S.pieces
  pub stales : S1.stales ≡ S.stales
  pub watches : S1.watches ≡ S.watches
  pub links : S1.links ≡ S.links

abbrev pub SealedAnswers : Type 0
SealedAnswers = (t : ℕ) (S : State) → S.sealed ≡ true → AnswersAlone S (ticks_in_room t S)
