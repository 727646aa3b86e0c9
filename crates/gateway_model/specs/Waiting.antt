-- The answers that wait to be told.
use Rattle.std.specs.Prelude.{◌≡◌, ◌≢◌, ℕ, ⊤, List, [], ◌∷◌, map}
use Rattle.std.specs.List.{AllByRecursion, Contains}
use Rattle.exchange_model.specs.declared.kept.Conn.{Conn}
use Rattle.exchange_core.specs.Values.{CoreValue, Untaken}

abbrev pub conn_id : Conn → ℕ
conn_id x = x.id

-- The connection is open.
abbrev pub IsOpen : ℕ → List Conn → Type 0
IsOpen c cs = Contains (map conn_id cs) c

-- The answers are of different connections.
abbrev pub AreApart : List Untaken → Type 0
AreApart [] = ⊤
AreApart (u ∷ us) = AllByRecursion (λ (v : Untaken). u.conn ≢ v.conn) us × AreApart us

-- The answers that wait are of different connections, which are open.
pub record AreServed (v : CoreValue) : Type 0 where
  pub apart : AreApart v.untaken
  pub opened : AllByRecursion (λ (u : Untaken). IsOpen u.conn v.state.conns) v.untaken

-- Nothing waits to be given out: no datagram, and no answer.
pub record IsDrained (core : CoreValue) : Type 0 where
  pub sends : core.unsent ≡ []
  pub answers : core.untaken ≡ []
