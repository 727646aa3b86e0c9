-- What is written of a value reads back as the value, whatever follows.
use Rattle.std.specs.Prelude.{◌≡◌, ◌++◌, ℕ, List, Some}
use Rattle.serde_json.specs.Data.{Data}
use Rattle.transformers.specs.Item.{item_at}
use Rattle.transformers.specs.Shortest.{shortest}

abbrev pub ReadsBack : ℕ → Data → Type 0
ReadsBack levels d = (rest : List ℕ) → item_at levels (shortest d ++ rest) ≡ Some (d, rest)
