-- The message IDs that a link gave, by the moments at which it gave them (RFC 7252, section 4.4).
use Rattle.std.specs.Prelude.{ℕ, ◌+◌, ◌-◌, ◌≤◌, List, [], ◌∷◌, length, filter, Option, Some, None, Bool, false, not, nat_lt, nat_le, if◌then◌else◌}
use Rattle.std.specs.List.{AllByRecursion}
use Rattle.limits.specs.declared.TheConstants.{MAX_MESSAGE_IDS, MESSAGE_ID_LIFETIME}

pub record MidsGiven : Type 0 where
  -- when the last ones were given, the oldest first
  pub moments : List ℕ
  -- none of them is later than this; nothing, once the clock went back
  pub newest : Option ℕ
  -- for how many more there is room in memory
  pub room : ℕ

-- An ID that was given then is still in use: a message may come up to 494 s after it was sent,
-- twice EXCHANGE_LIFETIME.
abbrev pub is_in_use : ℕ → ℕ → Bool
is_in_use t given = nat_lt (t - given) MESSAGE_ID_LIFETIME

abbrev pub newest_of : Bool → ℕ → Option ℕ
newest_of rising newest = if rising then Some newest else None

-- one more is given at this moment
abbrev pub newest_behind : ℕ → Option ℕ → Option ℕ
newest_behind t None = None
newest_behind t (Some newest) = if nat_le newest t then Some t else None

-- IDs that are in use no more are forgotten once there are many
abbrev pub pruned : ℕ → ℕ → List ℕ → List ℕ
pruned t waiting given =
    if nat_lt (length given + waiting) MAX_MESSAGE_IDS then given else filter (is_in_use t) given

-- the oldest one is in use no more
abbrev pub begins_unused : ℕ → List ℕ → Bool
begins_unused t [] = false
begins_unused t (given ∷ rest) = not (is_in_use t given)

-- the clock doesn't go back between them
abbrev pub AreRising : List ℕ → Type 0
AreRising [] = Unit {0}
AreRising (given ∷ rest) = AllByRecursion (λ later. given ≤ later) rest × AreRising rest

pub record IsRising (newest : ℕ) (moments : List ℕ) : Type 0 where
  pub rising : AreRising moments
  pub latest : AllByRecursion (λ given. given ≤ newest) moments
