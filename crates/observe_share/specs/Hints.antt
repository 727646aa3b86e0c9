-- Hints of what is watched: of a place that has none there is no watch.
use Rattle.std.specs.Prelude.{◌≡◌, ℕ, ◌/◌, ◌%◌, Bool, true, false, List, [], ◌≤◌, Option, Some, None, length, slice_get, All, Any}
use Rattle.std.specs.List.{AllByRecursion}
use Rattle.cache_key.specs.Digests.{rank_of}
use Rattle.cache_key.specs.declared.place.Place.{Place}
use Rattle.observe_share.specs.declared.registration.Registration.{Registration}
use Rattle.observe_share.specs.Watches.{is_at}

abbrev pub is_set : Option Bool → Bool
is_set None = false
is_set (Some hint) = hint

-- Whether a place may be watched, by the rank that the digests of one of its keys give.
abbrev pub is_hinted : List Bool → ℕ → Bool
is_hinted hints rank = is_set (slice_get hints (rank / 65536 % 1024))

-- Each watch's place has its hint.
abbrev pub AreHinted : List Bool → List Registration → Type 0
AreHinted hints rs =
    AllByRecursion (λ (r : Registration). is_hinted hints (rank_of r.key) ≡ true) rs

-- There is no watch of the place.
abbrev pub IsUnwatched : Place → List Registration → Type 0
IsUnwatched place rs = AllByRecursion (λ (r : Registration). is_at place r ≡ false) rs

-- The least of the moments at which their keys were asked for last.
abbrev pub IsFirstAsked : List Registration → Option ℕ → Type 0
IsFirstAsked rs None = rs ≡ []
IsFirstAsked rs (Some first) =
    Any (λ (r : Registration). r.asked ≡ first) rs × All (λ (r : Registration). first ≤ r.asked) rs

-- What stands beside the watches is of them, of which there are 64 at most.
pub record IsKept (rs : List Registration) (hints : List Bool) (first : Option ℕ) : Type 0 where
  pub few : length rs ≤ 64
  pub hinted : AreHinted hints rs
  pub least : IsFirstAsked rs first
