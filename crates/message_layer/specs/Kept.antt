-- Lists in which what is past stands no more.
use Rattle.std.specs.Prelude.{ℕ, ◌++◌, List, filter, Option, None, Some, Bool, false, ◌==◌, nat_le}
use Rattle.std.specs.Option.{option_to_list}

pub record KeptValue (A : Type 0) : Type 0 where
  -- in the order in which they came
  pub items : List A
  -- for how many more there is room in memory
  pub room : ℕ
  -- nothing was taken out but from the front
  pub whole : Bool

-- of this moment or later
abbrev pub is_since : {A : Type 0} → (A → ℕ) → ℕ → A → Bool
is_since moment_of since x = nat_le since (moment_of x)

-- what of a series is of a moment or later, and what came after
abbrev pub kept : {A : Type 0} → (A → ℕ) → ℕ → List A → Option A → List A
kept moment_of since series latest =
    filter (is_since moment_of since) series ++ option_to_list latest

-- room for what comes after others, of which there is one at most
abbrev pub kept_room : {A : Type 0} → ℕ → Option A → ℕ
kept_room room None = room
kept_room room (Some x) = 0

abbrev pub is_whole : {A : Type 0} → ℕ → Option A → Bool
is_whole since None = since == 0
is_whole since (Some x) = false
