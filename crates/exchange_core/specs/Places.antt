-- Where connections stand, readers and exchanges: in the order of their numbers.
use Rattle.std.specs.Prelude.{ℕ, ◌≤◌, Bool, ◌==◌, List, [], ◌∷◌, ⊤}
use Rattle.std.specs.List.{AllByRecursion}
use Rattle.exchange_model.specs.declared.kept.Conn.{Conn}
use Rattle.exchange_model.specs.declared.kept.Exchange.{Exchange}
use Rattle.exchange_model.specs.State.{State}
use Rattle.exchange_table.specs.Places.{RiseBy}
use Rattle.exchange_table.specs.Readers.{ask_in}

abbrev pub id_of : Conn → ℕ
id_of x = x.id

abbrev pub has_id : ℕ → Conn → Bool
has_id c x = x.id == c

pub record IsOrdered (S : State) : Type 0 where
  pub conns : RiseBy id_of S.conns
  pub readers : RiseBy ask_in S.readers

-- Each was opened when those before it were, or later.
abbrev pub OpenLater : List Exchange → Type 0
OpenLater [] = ⊤
OpenLater (e ∷ es) = AllByRecursion (λ (f : Exchange). e.since ≤ f.since) es × OpenLater es
