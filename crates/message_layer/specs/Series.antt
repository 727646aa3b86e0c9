-- A list that grows at its end and loses items at its front.
use Rattle.std.specs.Prelude.{ℕ, List}

pub record SeriesValue (A : Type 0) : Type 0 where
  -- the oldest first
  pub items : List A
  -- for how many more there is room in memory
  pub room : ℕ
