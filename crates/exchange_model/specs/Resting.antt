-- Between two steps: all that was due is done.
use Rattle.std.specs.Prelude.{◌≡◌, ◌⊎◌, ℕ, ◌+◌, ◌<◌, List, [], ◌∷◌, Option, Some, None, true, ⊤}
use Rattle.std.specs.List.{AllByRecursion}
use Rattle.limits.specs.declared.TheConstants.{MAX_TRANSMIT_WAIT}
use Rattle.uri_map.specs.declared.peer.Peer.{Peer}
use Rattle.message_layer.specs.Values.{LinkState}
use Rattle.message_layer.specs.Sending.{due_of}
use Rattle.message_layer.specs.declared.state.Outstanding.{Outstanding}
use Rattle.message_layer.specs.declared.state.Waiting.{Waiting}
use Rattle.history_laws.specs.Readings.{Noted, ticked}
use Rattle.history_laws.specs.Connections.{is_open}
use Rattle.history_laws.specs.Confirming.{owed}
use Rattle.history_laws.specs.Justified.{pending, AtRest}
use Rattle.exchange_model.specs.declared.kept.Conn.{Conn}
use Rattle.exchange_model.specs.declared.kept.Exchange.{Exchange}
use Rattle.exchange_model.specs.declared.kept.Reader.{Reader}
use Rattle.exchange_model.specs.State.{State, link_of}
use Rattle.exchange_model.specs.Reads.{Reads}

-- Where nothing is outstanding nothing waits, and no copy was due at the last tick.
abbrev pub IsUndue : ℕ → Option Outstanding → List Waiting → Type 0
IsUndue tick None ws = ws ≡ []
IsUndue tick (Some o) ws = tick < due_of o

abbrev pub LinkRests : ℕ → LinkState → Type 0
LinkRests tick s = IsUndue tick s.outstanding s.waiting

-- an open exchange was opened by the entry with this number
abbrev pub HasExchange : List Exchange → ℕ → Type 0
HasExchange [] k = ⊥
HasExchange (e ∷ es) k = (e.opening ≡ k) ⊎ HasExchange es k

-- What a connection waits for is the answer to a reader's ask,
abbrev pub HasReader : List Reader → ℕ → Type 0
HasReader [] k = ⊥
HasReader (r ∷ rs) k = (r.ask ≡ k) ⊎ HasReader rs k

abbrev pub IsServed : List Reader → Option ℕ → Type 0
IsServed rs None = ⊤
IsServed rs (Some k) = HasReader rs k

pub record Rests (l : List Noted) (S : State) : Type 0 where
  pub reads : Reads l S
  pub quiet : owed l ≡ None
  pub links : (p : Peer) → LinkRests (ticked l) (link_of S.links p)
  pub in_time :
      AllByRecursion (λ (e : Exchange). ticked l < e.since + MAX_TRANSMIT_WAIT) S.exchanges
  pub served : AllByRecursion (λ (x : Conn). IsServed S.readers x.pending) S.conns
  -- and the exchange that one reads is open.
  pub reading : AllByRecursion (λ (r : Reader). HasExchange S.exchanges r.opening) S.readers

-- Then the history is at rest.
abbrev pub RestsAtRest : Type 0
RestsAtRest = (l : List Noted) (S : State) → Rests l S → AtRest l

-- The state has just the connections that are open, each with what it waits for.
abbrev pub HasConn : List Conn → ℕ → Option ℕ → Type 0
HasConn [] c p = ⊥
HasConn (x ∷ xs) c p = ((x.id ≡ c) × (x.pending ≡ p)) ⊎ HasConn xs c p

abbrev pub ConnsTell : Type 0
ConnsTell =
    (l : List Noted) (S : State) (c : ℕ) → Reads l S
    → (is_open l c ≡ true → HasConn S.conns c (pending l c))
    × ((p : Option ℕ) → HasConn S.conns c p → (is_open l c ≡ true) × (pending l c ≡ p))
