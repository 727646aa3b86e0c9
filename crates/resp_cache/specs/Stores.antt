-- The pairs that are kept, the last used first, and what each call makes of them.
use Rattle.std.specs.Prelude.{◌≡◌, ◌≤◌, ℕ, Bool, true, false, not, ◌&&◌, List, [], ◌∷◌, filter, find, length, Option, Some, None, option_map, if◌then◌else◌}
use Rattle.std.specs.List.{list_any}
use Rattle.limits.specs.declared.TheConstants.{MAX_STORED}
use Rattle.cache_key.specs.Keys.{CacheKey, same_key, same_place}
use Rattle.cache_key.specs.declared.place.Place.{Place}
use Rattle.resp_cache.specs.Stored.{Stored, is_fresh, is_never_fresh}
use Rattle.resp_cache.specs.declared.pair.Pair.{Pair}

abbrev pub is_of : CacheKey → Pair → Bool
is_of key p = same_key p.key key

abbrev pub is_of_another : CacheKey → Pair → Bool
is_of_another key p = not (same_key p.key key)

-- the pairs of other keys
abbrev pub others : CacheKey → List Pair → List Pair
others key ps = filter (is_of_another key) ps

-- No key stands twice.
abbrev pub KeysApart : List Pair → Type 0
KeysApart [] = Unit {0}
KeysApart (p ∷ ps) = (list_any (is_of p.key) ps ≡ false) × KeysApart ps

-- At most so many pairs are kept, and one for each key.
pub record IsStore (ps : List Pair) : Type 0 where
  pub few : length ps ≤ MAX_STORED
  pub apart : KeysApart ps

-- the pairs, and whether one more can be put without memory
pub record StoreValue : Type 0 where
  pub pairs : List Pair
  pub room : Bool

abbrev pub with_room : StoreValue → StoreValue
with_room s = record s { room = true }

abbrev pub is_fresh_under : CacheKey → ℕ → Pair → Bool
is_fresh_under key t p = is_of key p && is_fresh t p.stored

abbrev pub is_stale_under : CacheKey → ℕ → Pair → Bool
is_stale_under key t p = is_of key p && not (is_fresh t p.stored)

abbrev pub stored_in : Option Pair → Option Stored
stored_in found = option_map (λ (p : Pair). p.stored) found

-- the response that is served for a key
abbrev pub served : CacheKey → ℕ → List Pair → Option Stored
served key t ps = stored_in (find (is_fresh_under key t) ps)

-- the response that is stored under a key, where it is fresh no more
abbrev pub stale_under : CacheKey → ℕ → List Pair → Option Stored
stale_under key t ps = stored_in (find (is_stale_under key t) ps)

-- A pair that is served comes to the front.
abbrev pub with_first : Option Pair → List Pair → List Pair
with_first None ps = ps
with_first (Some p) ps = p ∷ others p.key ps

abbrev pub moved : CacheKey → ℕ → List Pair → List Pair
moved key t ps = with_first (find (is_fresh_under key t) ps) ps

abbrev pub with_moved : CacheKey → ℕ → StoreValue → StoreValue
with_moved key t s = record s { pairs = moved key t s.pairs }

-- A response is put in front, in place of the key's own. One that is never fresh isn't put.
abbrev pub placed : CacheKey → Stored → List Pair → List Pair
placed key s ps =
    if is_never_fresh s then others key ps
    else record { key = key; stored = s } ∷ others key ps

-- It is a pair of another place.
abbrev pub is_elsewhere : Place → Pair → Bool
is_elsewhere place p = not (same_place p.key.place place)
