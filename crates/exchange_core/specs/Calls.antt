-- What each call of a core leaves.
use Rattle.std.specs.Prelude.{◌≡◌, ◌⊎◌, ℕ, ◌≤◌, ◌<◌, ◌^◌, ◌/◌, min, max, true, false, is_some, List, length, drop, Option, Some, None, Result, Ok, Err}
use Rattle.limits.specs.declared.TheConstants.{LAST_MOMENT, MAX_CONNECTIONS, MAX_DATAGRAM_LEN, MAX_MESSAGE_LEN}
use Rattle.coap_codec.specs.Spelling.{Spells}
use Rattle.uri_map.specs.declared.peer.Peer.{Peer}
use Rattle.ask_model.specs.Requests.{CoapRequest, Requests, opening_message}
use Rattle.ask_model.specs.Views.{Ask}
use Rattle.history_laws.specs.Numbering.{token_number}
use Rattle.exchange_model.specs.State.{State, link_of}
use Rattle.exchange_model.specs.Steps.{opens, shuts, asks_so}
use Rattle.exchange_model.specs.Hearing.{Numbers}
use Rattle.exchange_model.specs.Resting.{HasConn}
use Rattle.exchange_model.specs.Calls.{has_place, IsAlone, goes_by}
use Rattle.exchange_model.specs.Keeping.{MayGoOn}
use Rattle.exchange_model.specs.Room.{fits}
use Rattle.exchange_model.specs.Sealing.{opens_in_room, asks_in_room, hears_in_room}
use Rattle.exchange_core.specs.declared.fault.OpenFault.{OpenFault}
use Rattle.exchange_core.specs.declared.fault.OpenFault.TheVariants as Open
use Rattle.exchange_core.specs.declared.fault.AskFault.{AskFault}
use Rattle.exchange_core.specs.declared.fault.AskFault.TheVariants as Ask
use Rattle.exchange_core.specs.Values.{CoreValue, stepped}

-- The moment that counts: none before the last one, and none above 2 ^ 62.
abbrev pub now : ℕ → ℕ → ℕ
now last moment = max last (min moment LAST_MOMENT)

-- A connection is opened under the next number; or the journal takes it no more; or as many are
-- open as may be. Where memory is wanted, nothing changes.
abbrev pub IsOpened : Result ℕ OpenFault → ℕ → CoreValue → CoreValue → Type 0
IsOpened (Ok id) t old new =
    (id ≡ old.state.opened) × (new ≡ stepped (opens_in_room t old.state) old)
    × (new.state.sealed ≡ false) × (length old.state.conns < MAX_CONNECTIONS)
IsOpened (Err Open.Sealed) t old new =
    (new ≡ stepped (opens_in_room t old.state) old)
    × (new.state.sealed ≡ true) × (length old.state.conns < MAX_CONNECTIONS)
IsOpened (Err Open.Full) t old new = (new ≡ old) × (MAX_CONNECTIONS ≤ length old.state.conns)
IsOpened (Err Open.Memory) t old new =
    (new ≡ old) × (fits (opens t old.state) ≡ true) × (length old.state.conns < MAX_CONNECTIONS)

-- A connection that is open is shut.
abbrev pub IsClosed : ℕ → ℕ → CoreValue → CoreValue → Type 0
IsClosed t c old new =
    ((p : Option ℕ) × HasConn old.state.conns c p) × (new ≡ stepped (shuts t c old.state) old)

abbrev pub IsUnknown : ℕ → CoreValue → Type 0
IsUnknown c v = (p : Option ℕ) → HasConn v.state.conns c p → ⊥

-- What a message is sent under (RFC 7252 section 5.3.1): a token that begins with how many were
-- issued before, and ends with the high 32 bits of the word.
pub record IsWordedBy (word : ℕ) (n : Numbers) (S : State) : Type 0 where
  pub word_is : n.word ≡ word
  pub token_size : length n.token ≡ 8
  pub number : token_number n.token ≡ S.issued
  pub random : token_number (drop 4 n.token) ≡ word / 2 ^ 32

-- Its first message is spelled under it, where the ask begins an exchange.
abbrev pub IsSpelled : ℕ → Ask → Numbers → State → Type 0
IsSpelled t a n S =
    (q : CoapRequest) → a.sense ≡ Requests q → IsAlone t q S → has_place t q.peer S ≡ true
    → Spells (opening_message (asks_so t a q S) q 0 n.token) n.text

pub record AsksSo (t word c : ℕ) (a : Ask) (old new : CoreValue) : Type 0 where
  pub numbers : Numbers
  pub worded : IsWordedBy word numbers old.state
  pub spelled : IsSpelled t a numbers old.state
  pub idle : HasConn old.state.conns c None
  pub is : new ≡ stepped (asks_in_room t c a numbers old.state) old

-- A datagram is lost after the seal, or from an endpoint to which nothing was sent, or above 2,048
-- bytes.
pub record IsTakenIn (p : Peer) (d : List ℕ) (S : State) : Type 0 where
  pub unsealed : S.sealed ≡ false
  pub known : is_some (link_of S.links p).last_mid ≡ true
  pub short : length d ≤ MAX_DATAGRAM_LEN

-- A datagram is heard. Where an exchange goes on by it, its next message is spelled under the next
-- token.
pub record HearsSo (t word : ℕ) (p : Peer) (d : List ℕ) (old new : CoreValue) : Type 0 where
  pub numbers : Numbers
  pub worded : IsWordedBy word numbers old.state
  pub goes : IsTakenIn p d old.state → MayGoOn t p d numbers old.state
  pub short : IsTakenIn p d old.state → is_some (goes_by t p d old.state) ≡ true
      → length numbers.text ≤ MAX_MESSAGE_LEN
  pub is : new ≡ stepped (hears_in_room t p d numbers old.state) old

-- An ask is entered under the next number; or the journal takes it no more; or the connection isn't
-- open, or waits for an answer. Where memory is wanted, nothing changes.
abbrev pub IsAsked : Result ℕ AskFault → ℕ → ℕ → ℕ → Ask → CoreValue → CoreValue → Type 0
IsAsked (Ok k) t word c a old new =
    (k ≡ length old.state.entries) × (new.state.sealed ≡ false) × AsksSo t word c a old new
IsAsked (Err Ask.Sealed) t word c a old new =
    (new.state.sealed ≡ true) × HasConn old.state.conns c None
    × (((old.state.sealed ≡ true) × (new ≡ old)) ⊎ AsksSo t word c a old new)
IsAsked (Err Ask.Unknown) t word c a old new = (new ≡ old) × IsUnknown c old
IsAsked (Err Ask.Pending) t word c a old new =
    (new ≡ old) × ((k : ℕ) × HasConn old.state.conns c (Some k))
IsAsked (Err Ask.Memory) t word c a old new =
    (new ≡ old) × (old.state.sealed ≡ false) × HasConn old.state.conns c None
