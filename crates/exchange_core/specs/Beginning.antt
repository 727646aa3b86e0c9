-- Asks that begin an exchange.
use Rattle.std.specs.Prelude.{◌≡◌, ℕ, ◌+◌, ◌≤◌, Bool, true, false, List, [], ◌∷◌, ◌++◌, length, sum_by, Option, Some, None, option_map, is_some, Result, Ok, Err}
use Rattle.std.specs.Arc.{arc_value}
use Rattle.limits.specs.declared.TheConstants.{LAST_MOMENT, MAX_REQUEST_SIZE}
use Rattle.blockwise.specs.Uploads.{begun}
use Rattle.observe_share.specs.Watches.{without}
use Rattle.uri_map.specs.declared.peer.Peer.{Peer}
use Rattle.resp_cache.specs.Stored.{Stored}
use Rattle.ask_model.specs.Requests.{Sense, Requests, Refuses}
use Rattle.ask_model.specs.Sharing.{asked_digests}
use Rattle.ask_model.specs.Sizes.{capped, came_size}
use Rattle.ask_model.specs.Datagrams.{asked_peer}
use Rattle.ask_model.specs.Views.{Mapping}
use Rattle.journal_book.specs.Entries.{entry_size}
use Rattle.journal_book.specs.Views.{ask_of}
use Rattle.message_layer.specs.declared.prepared.FirstSending.{FirstSending}
use Rattle.message_layer.specs.declared.state.Waiting.{Waiting}
use Rattle.exchange_model.specs.declared.kept.Exchange.{Exchange}
use Rattle.exchange_model.specs.declared.kept.Work.{Work}
use Rattle.exchange_model.specs.declared.kept.Work.TheVariants as W
use Rattle.exchange_model.specs.declared.kept.Reader.{Reader}
use Rattle.exchange_model.specs.State.{State}
use Rattle.exchange_model.specs.Steps.{first_work, seals, stale_for}
use Rattle.exchange_model.specs.Hearing.{Numbers}
use Rattle.exchange_model.specs.Calls.{has_place}
use Rattle.exchange_model.specs.Resting.{HasConn}
use Rattle.exchange_model.specs.Room.{fits}
use Rattle.exchange_model.specs.Watching.{tokens_of}
use Rattle.endpoint_table.specs.Tables.{submitted_to}
use Rattle.exchange_core.specs.declared.beginning.Begun.{Begun}
use Rattle.exchange_core.specs.declared.beginning.Begun.TheVariants.{Asked, Busy}
use Rattle.exchange_core.specs.declared.fault.AskFault.{AskFault}
use Rattle.exchange_core.specs.declared.fault.AskFault.TheVariants as Ask
use Rattle.exchange_core.specs.declared.state.State.{State as RustState}
use Rattle.exchange_core.specs.Calls.{IsWordedBy, AsksSo}
use Rattle.exchange_core.specs.Joining.{joined_for}
use Rattle.exchange_core.specs.Recalling.{served_for}
use Rattle.exchange_core.specs.Drafts.{DraftValue}
use Rattle.exchange_core.specs.States.{state_of, given_in, outgoing, with_draft, SeesSame}
use Rattle.exchange_core.specs.Values.{CoreValue}
use Rattle.exchange_core.specs.Watching.{is_renewed_for}
use Rattle.exchange_core.specs.Wording.{IsTextFor, asks_for}

-- the code of the request that is asked, or 0 where none is
abbrev pub asked_method : Sense → ℕ
asked_method (Requests q) = q.method
asked_method (Refuses cause status) = 0

-- how far it has come before its first reply
abbrev pub asked_work : Sense → Work
asked_work (Requests q) = first_work q
asked_work (Refuses cause status) = W.Gives (begun 0 6)

-- the exchange that the ask with this number opens for what it means
abbrev pub exchange_by : ℕ → List ℕ → Peer → Sense → Bool → Option FirstSending → ℕ → Exchange
exchange_by t token p sense observes sent n = record {
  opening = n;
  ask = n;
  token = token;
  since = t;
  peer = p;
  method = asked_method sense;
  sending = option_map (λ (x : FirstSending). n + 1) sent;
  awaits = is_some sent;
  observes = observes;
  asked = t;
  current = true;
  newest = true;
  work = asked_work sense;
  digests = asked_digests sense;
}

-- who reads it first
abbrev pub reader_by : ℕ → ℕ → Reader
reader_by c n = record { ask = n; conn = c; opening = n }

-- one exchange more with its reader and what it asks about, whose message was handed in under the
-- next token; what observed the same ends, and nothing is awaited under its tokens
abbrev pub with_exchange :
    ℕ → Sense → Exchange → Reader → Option Stored → Waiting → State → State
with_exchange t sense e r keeps w S = record S {
  issued = S.issued + 1;
  exchanges = S.exchanges ++ e ∷ [];
  stales = S.stales ++ stale_for e.opening keeps;
  readers = S.readers ++ r ∷ [];
  watches = without (is_renewed_for sense) S.watches;
  links = submitted_to e.peer t w (tokens_of (is_renewed_for sense) S.watches) S.links;
}

abbrev pub numbers_of : List ℕ → List ℕ → ℕ → Numbers
numbers_of token text word = record { token = token; text = text; word = word }

-- The ask of a connection that waits for nothing is served nothing and joins no exchange, there is
-- a place for its own, and its message is spelled under the next token.
pub record MayBegin (t word c : ℕ) (m : Mapping) (p : Peer) (token text : List ℕ) (S : State)
    : Type 0 where
  pub unsealed : S.sealed ≡ false
  pub later : S.moment ≤ t
  pub early : t ≤ LAST_MOMENT
  pub idle : HasConn S.conns c None
  pub peer : asked_peer m.sense ≡ Some p
  pub unserved : served_for m.sense t S.store ≡ None
  pub alone : joined_for m.sense S ≡ None
  pub spelled : IsTextFor (asks_for t m S) m.sense token text
  pub small : came_size m.came ≤ MAX_REQUEST_SIZE
  pub worded : IsWordedBy word (numbers_of token text word) S
  pub place : has_place t p S ≡ true

-- The state is this one, after so many entries more, of so many bytes.
pub record Leaves {R : Type 0} (S : State) (d : DraftValue) (old new : RustState R) : Type 0 where
  pub state : state_of new ≡ S
  pub bytes : new.bytes ≡ capped (old.bytes + capped (sum_by entry_size d.entries))
  pub held : length old.conns.items + 1 ≤ new.journal.room
  pub answers : given_in new ≡ given_in old ++ d.answers
  pub sends : outgoing new ≡ outgoing old ++ d.sends

pub record LeavesSealed {R : Type 0} (t : ℕ) (old new : RustState R) : Type 0 where
  pub state : state_of new ≡ seals t (state_of old)
  pub bytes : new.bytes ≡ capped (old.bytes + 64)
  pub room : new.journal.room + 1 ≡ old.journal.room
  pub answers : given_in new ≡ given_in old
  pub sends : outgoing new ≡ outgoing old

-- What was drafted is entered with its exchange where there is room for it; else the journal is
-- sealed. Where memory is wanted, nothing changes.
abbrev pub IsEntered : {R X : Type 0} → Result X AskFault → ℕ → Sense → Exchange → Reader
    → Option Stored → Waiting → DraftValue → RustState R → RustState R → Type 0
IsEntered (Ok x) t sense e r keeps w d old new =
    (fits (with_draft t d (state_of old)) ≡ true)
    × Leaves (with_exchange t sense e r keeps w (with_draft t d (state_of old))) d old new
IsEntered (Err Ask.Sealed) t sense e r keeps w d old new =
    (fits (with_draft t d (state_of old)) ≡ false) × LeavesSealed t old new
IsEntered (Err Ask.Memory) t sense e r keeps w d old new = SeesSame old new
IsEntered (Err Ask.Unknown) t sense e r keeps w d old new = ⊥
IsEntered (Err Ask.Pending) t sense e r keeps w d old new = ⊥

-- An ask is entered under the next number, and its exchange begins; or there is no place for it; or
-- the journal takes it no more. Where memory is wanted, nothing changes.
abbrev pub IsBegunBy : Result ℕ AskFault → ℕ → ℕ → ℕ → Mapping → CoreValue → CoreValue → Type 0
IsBegunBy (Ok k) t word c m old new =
    (k ≡ length old.state.entries) × (new.state.sealed ≡ false)
    × AsksSo t word c (ask_of m) old new
IsBegunBy (Err Ask.Sealed) t word c m old new =
    (new.state.sealed ≡ true) × AsksSo t word c (ask_of m) old new
IsBegunBy (Err Ask.Memory) t word c m old new = new ≡ old
IsBegunBy (Err Ask.Unknown) t word c m old new = ⊥
IsBegunBy (Err Ask.Pending) t word c m old new = ⊥

abbrev pub IsBegun : {R : Type 0} → Result (Begun R) AskFault → ℕ → ℕ → ℕ → Mapping → Peer
    → CoreValue → CoreValue → Type 0
IsBegun (Ok (Asked ticket)) t word c m p old new =
    (ticket.conn ≡ c) × (arc_value ticket.mapped ≡ m)
    × IsBegunBy (Ok ticket.number) t word c m old new
IsBegun (Ok (Busy mapped)) t word c m p old new =
    (new ≡ old) × (has_place t p old.state ≡ false) × (arc_value mapped ≡ m)
IsBegun (Err e) t word c m p old new = IsBegunBy (Err e) t word c m old new
