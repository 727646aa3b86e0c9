-- The law of the steps: between two of them one reading of the journal is legal, at rest, and says
-- what the state says.
use Rattle.std.specs.Prelude.{◌≡◌, ℕ, ◌+◌, ◌<◌, ◌≤◌, true, false, List, [], length, Option, Some, None}
use Rattle.std.specs.List.{AllByRecursion}
use Rattle.limits.specs.declared.TheConstants.{MAX_BODY_LEN, MAX_MESSAGE_IDS, MAX_TRANSMIT_WAIT}
use Rattle.coap_codec.specs.Spelling.{Spells}
use Rattle.uri_map.specs.declared.peer.Peer.{Peer}
use Rattle.message_layer.specs.Values.{LinkState}
use Rattle.message_layer.specs.declared.state.Waiting.{Waiting}
use Rattle.ask_model.specs.Requests.{CoapRequest, Sense, Requests, Refuses, opening_message}
use Rattle.ask_model.specs.Views.{Ask}
use Rattle.history_laws.specs.Causes.{IsRefusal}
use Rattle.history_laws.specs.Numbering.{token_number}
use Rattle.history_laws.specs.Progress.{Progress}
use Rattle.exchange_model.specs.Laws.{IsContinued}
use Rattle.history_laws.specs.Readings.{Noted}
use Rattle.history_laws.specs.Sealing.{MaySeal}
use Rattle.history_laws.specs.Justified.{Stands}
use Rattle.observe_share.specs.declared.registration.Registration.{Registration}
use Rattle.exchange_model.specs.declared.kept.Exchange.{Exchange}
use Rattle.exchange_model.specs.State.{State, link_of}
use Rattle.exchange_model.specs.Steps.{opens, shuts, seals, asks_so}
use Rattle.exchange_model.specs.Hearing.{Numbers}
use Rattle.exchange_model.specs.Resting.{LinkRests, Rests, HasConn}
use Rattle.exchange_model.specs.Calls.{has_place, IsAlone, asked, goes_by, heard, ticked}

-- IDs are two bytes, and there are enough of them for all messages that wait.
pub record HasMids (s : LinkState) : Type 0 where
  pub small : AllByRecursion (λ (w : Waiting). w.first_mid < 65536) s.waiting
  pub enough : length s.given + length s.waiting ≤ MAX_MESSAGE_IDS

-- What holds of a core between two steps.
pub record Kept (S : State) : Type 0 where
  pub reading : List Noted
  pub rests : Rests reading S
  pub mids : (p : Peer) → HasMids (link_of S.links p)

-- a core before its first step
abbrev pub start : State
start = record {
  entries = [];
  sealed = false;
  given = 0;
  kept = [];
  moment = 0;
  opened = 0;
  issued = 0;
  conns = [];
  readers = [];
  exchanges = [];
  pieces = [];
  stales = [];
  watches = [];
  store = [];
  links = [];
}

abbrev pub StartKeeps : Type 0
StartKeeps = Kept start

-- before an input at this moment: the journal isn't sealed
pub record MayStep (t : ℕ) (S : State) : Type 0 where
  pub kept : Kept S
  pub unsealed : S.sealed ≡ false
  pub later : S.moment ≤ t

-- The journal stands.
abbrev pub KeptStands : Type 0
KeptStands = (S : State) → Kept S → Stands S.entries

abbrev pub OpensKeeps : Type 0
OpensKeeps = (t : ℕ) (S : State) → MayStep t S → Kept (opens t S)

-- A connection may be shut in a sealed journal too.
abbrev pub ShutsKeeps : Type 0
ShutsKeeps =
    (t c : ℕ) (p : Option ℕ) (S : State) → Kept S → S.moment ≤ t → HasConn S.conns c p
    → Kept (shuts t c S)

abbrev pub SealsKeeps : Type 0
SealsKeeps =
    (t : ℕ) (S : State) → (m : MayStep t S) → MaySeal m.kept.reading → Kept (seals t S)

-- What an ask is refused for is a refusal.
abbrev pub IsProper : Sense → Type 0
IsProper (Requests q) = Unit {0}
IsProper (Refuses cause status) = IsRefusal cause

-- Its first message is spelled under the next token, and its body keeps the limit.
pub record IsNumbered (t : ℕ) (a : Ask) (q : CoapRequest) (n : Numbers) (S : State) : Type 0 where
  pub short : length q.body ≤ MAX_BODY_LEN
  pub spelled : Spells (opening_message (asks_so t a q S) q 0 n.token) n.text
  pub token_size : length n.token ≡ 8
  pub number : token_number n.token ≡ S.issued

abbrev pub AsksKeeps : Type 0
AsksKeeps =
    (t c : ℕ) (a : Ask) (n : Numbers) (S : State)
    → MayStep t S → HasConn S.conns c None → IsProper a.sense
    → ((q : CoapRequest) → a.sense ≡ Requests q → IsAlone t q S → has_place t q.peer S ≡ true
    → IsNumbered t a q n S)
    → Kept (asked t c a n S)

-- Where an exchange goes on by the datagram, its next message may follow.
abbrev pub MayGoOn : ℕ → Peer → List ℕ → Numbers → State → Type 0
MayGoOn t p d n S =
    (e : Exchange) (progress : Progress) → goes_by t p d S ≡ Some (e, progress)
    → IsContinued e progress n S

abbrev pub HearsKeeps : Type 0
HearsKeeps =
    (t : ℕ) (p : Peer) (d : List ℕ) (n : Numbers) (S : State)
    → MayStep t S → AllByRecursion (λ (b : ℕ). b < 256) d → MayGoOn t p d n S
    → Kept (heard t p d n S)

abbrev pub TicksKeeps : Type 0
TicksKeeps = (t : ℕ) (S : State) → MayStep t S → Kept (ticked t S)

-- After a tick nothing is due at its moment: no copy, no message that waits, no end of an exchange,
-- and no watch for what nobody asks any more.
pub record IsDone (t : ℕ) (S : State) : Type 0 where
  pub links : (p : Peer) → LinkRests t (link_of S.links p)
  pub in_time : AllByRecursion (λ (e : Exchange). t < e.since + MAX_TRANSMIT_WAIT) S.exchanges
  pub asked : AllByRecursion (λ (r : Registration). t < r.asked + 120000) S.watches

abbrev pub TicksDo : Type 0
TicksDo = (t : ℕ) (S : State) → MayStep t S → IsDone t (ticked t S)
