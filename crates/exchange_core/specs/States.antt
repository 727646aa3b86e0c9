-- What a core keeps, as the state of its steps.
use Rattle.std.specs.Prelude.{◌≡◌, ℕ, ◌+◌, ◌≤◌, List, [], ◌∷◌, ◌++◌, map, length, Result, Ok, Err, vec_len, vec_capacity}
use Rattle.std.specs.VecDeque.{deque_len, deque_capacity}
use Rattle.ask_model.specs.declared.cause.Cause.{Cause}
use Rattle.ask_model.specs.Views.{Mapping}
use Rattle.journal_book.specs.Entries.{Fault, Written}
use Rattle.reply_reading.specs.Findings.{Fails}
use Rattle.exchange_model.specs.declared.kept.Reader.{Reader}
use Rattle.exchange_model.specs.State.{State, readers_after}
use Rattle.exchange_model.specs.Growing.{conns_with}
use Rattle.exchange_core.specs.declared.answer.Ticket.{Ticket}
use Rattle.exchange_core.specs.declared.fault.AskFault.{AskFault}
use Rattle.exchange_core.specs.declared.state.State.{State as RustState}
use Rattle.exchange_core.specs.Values.{CoreValue, Outgoing, outgoing_of}
use Rattle.exchange_core.specs.Answering.{Given, given_of}
use Rattle.exchange_core.specs.Drafts.{DraftValue, untaken_of}

abbrev pub state_of : {R : Type 0} → RustState R → State
state_of s = record {
  entries = s.journal.entries;
  sealed = s.sealed;
  given = s.journal.given;
  kept = s.journal.kept;
  moment = s.moment;
  opened = s.opened;
  issued = s.issued;
  conns = s.conns.items;
  exchanges = s.exchanges.exchanges;
  pieces = s.fetched.pieces;
  stales = s.stales.stales;
  readers = s.readers.items;
  watches = s.watches.standing;
  store = s.store.pairs;
  links = s.endpoints.links;
}

abbrev pub outgoing : {R : Type 0} → RustState R → List Outgoing
outgoing s = map outgoing_of s.sends.items

abbrev pub given_in : {R : Type 0} → RustState R → List Given
given_in s = map given_of s.answers.items

-- a core that keeps this state, with the answers and datagrams that aren't taken
abbrev pub core_of : State → List Given → List Outgoing → CoreValue
core_of S gs os = record { state = S; untaken = map untaken_of gs; unsent = os }

abbrev pub seen : {R : Type 0} → RustState R → CoreValue
seen s = core_of (state_of s) (given_in s) (outgoing s)

-- Nothing changes but places, which don't get fewer in the journal.
pub record SeesSame {R : Type 0} (old new : RustState R) : Type 0 where
  pub state : state_of new ≡ state_of old
  pub answers : given_in new ≡ given_in old
  pub sends : outgoing new ≡ outgoing old
  pub bytes : new.bytes ≡ old.bytes
  pub room : old.journal.room ≤ new.journal.room

-- There are places for what isn't taken at once, and for the entries, after which there is one for
-- the Shut of each connection and one for the Sealed.
pub record HasPlaces {R : Type 0} (s : RustState R) (d : DraftValue) : Type 0 where
  pub answers : vec_len s.answers + length d.answers ≤ vec_capacity s.answers
  pub sends : deque_len s.sends + length d.sends ≤ deque_capacity s.sends
  pub entries : length d.entries + length s.conns.items + 1 ≤ s.journal.room

-- what entries do to those who wait
abbrev pub readers_with : List Reader → List Written → List Reader
readers_with rs [] = rs
readers_with rs (w ∷ ws) = readers_with (readers_after rs w.deed) ws

-- what was drafted at this moment comes
abbrev pub with_draft : ℕ → DraftValue → State → State
with_draft t d S = record S {
  entries = S.entries ++ d.entries;
  conns = conns_with S.conns (length S.entries) d.entries;
  readers = readers_with S.readers d.entries;
  moment = t;
}

-- the answer to an ask that is entered under this number, and refused for this cause
abbrev pub refusal_given : ℕ → ℕ → ℕ → Mapping → Cause → Given
refusal_given n t c m cause = record {
  conn = c;
  ask = n;
  number = n + 1;
  moment = t;
  heard = t;
  mapping = m;
  found = record { told = Fails cause; grounds = Fault cause n };
}

-- what an ask is answered with, by the number of its entry
abbrev pub number_in : {R : Type 0} → Result (Ticket R) AskFault → Result ℕ AskFault
number_in (Ok t) = Ok t.number
number_in (Err e) = Err e
