-- What contracts see of a pass and of a shop.
use Rattle.std.specs.Prelude.{ℕ, List}
use Rattle.exchange_core.specs.Values.{CoreValue}
use Rattle.gateway_desk.specs.Lines.{Line}

-- a pass: its connection, its notes in order, how many asks its share of the ledger counts, and for
-- how many more notes it has room
pub record Held : Type 0 where
  pub conn : ℕ
  pub lines : List Line
  pub amount : ℕ
  pub places : ℕ

-- a shop: its core, and how many more passes it gives
pub record ShopValue : Type 0 where
  pub core : CoreValue
  pub left : ℕ
