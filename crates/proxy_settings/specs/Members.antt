-- What a table of a file has at its keys.
use Rattle.std.specs.Prelude.{◌≡◌, List, [], ◌∷◌, ℕ, Option, Some, None, ⊤}
use Rattle.std.specs.Option.{option_and_then}
use Rattle.toml.specs.Data.{Data, table, Items, no_items, item, Members, get_member, as_array}

-- what is read at a key, which has to be there
abbrev pub required : {A : Type 0} → (Data → Option A) → List ℕ → Members → Option A
required read key t = option_and_then read (get_member key t)

-- what is read at a key, or the default where the key isn't there
abbrev pub read_or : {A : Type 0} → A → (Data → Option A) → Option Data → Option A
read_or default read None = Some default
read_or default read (Some d) = read d

abbrev pub provided : {A : Type 0} → A → (Data → Option A) → List ℕ → Members → Option A
provided default read key t = read_or default read (get_member key t)

-- The key stands for x.
abbrev pub Has : {A : Type 0} → Members → List ℕ → (Data → Option A) → A → Type 0
Has t key read x = required read key t ≡ Some x

-- The key stands for x, or isn't there and x is the default.
abbrev pub HasOr : {A : Type 0} → Members → List ℕ → (Data → Option A) → A → A → Type 0
HasOr t key read default x = provided default read key t ≡ Some x

-- The tables of an array stand for the rows, one for one.
abbrev pub IsTable : {A : Type 0} → (Members → A → Type 0) → Data → A → Type 0
IsTable IsRow (table t) x = IsRow t x
IsTable IsRow _ x = ⊥

abbrev pub AreTables : {A : Type 0} → (Members → A → Type 0) → Items → List A → Type 0
AreTables IsRow no_items [] = ⊤
AreTables IsRow no_items (x ∷ xs) = ⊥
AreTables IsRow (item d ds) [] = ⊥
AreTables IsRow (item d ds) (x ∷ xs) = IsTable IsRow d x × AreTables IsRow ds xs

-- the items of an array, or none where the key isn't there
abbrev pub items_at : List ℕ → Members → Option Items
items_at key t = provided no_items as_array key t

-- The key has an array of tables that stand for the rows; where it isn't there, there are none.
pub record HasRows {A : Type 0} (t : Members) (key : List ℕ) (IsRow : Members → A → Type 0)
    (rows : List A) : Type 0 where
  pub tables : Items
  pub there : items_at key t ≡ Some tables
  pub each : AreTables IsRow tables rows
