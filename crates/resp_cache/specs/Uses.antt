-- What calls one after another make of the pairs, and which keys they use.
use Rattle.std.specs.Prelude.{◌≡◌, ◌<◌, ℕ, Bool, true, List, [], ◌∷◌, ◌++◌, filter, find, length, take, Option, Some, None, option_map, if◌then◌else◌}
use Rattle.std.specs.List.{list_all, list_any}
use Rattle.std.specs.Option.{option_to_list}
use Rattle.limits.specs.declared.TheConstants.{MAX_STORED}
use Rattle.cache_key.specs.Keys.{CacheKey, same_key}
use Rattle.cache_key.specs.declared.place.Place.{Place}
use Rattle.resp_cache.specs.Stored.{Stored, is_fresh, is_never_fresh}
use Rattle.resp_cache.specs.Stores.{KeysApart, is_elsewhere, is_fresh_under, is_of_another, moved, placed, served}
use Rattle.resp_cache.specs.declared.pair.Pair.{Pair}

pub data Call : Type 0 where
  Get : (key : CacheKey) → (moment : ℕ) → Call
  Put : (key : CacheKey) → (stored : Stored) → Call
  Retire : (place : Place) → Call

-- the pairs after a call
abbrev pub after : Call → List Pair → List Pair
after (Get key t) ps = moved key t ps
after (Put key s) ps = take MAX_STORED (placed key s ps)
after (Retire place) ps = filter (is_elsewhere place) ps

abbrev pub after_all : List Call → List Pair → List Pair
after_all [] ps = ps
after_all (c ∷ cs) ps = after_all cs (after c ps)

-- the key whose response a call serves or puts
abbrev pub used_by : Call → List Pair → Option CacheKey
used_by (Get key t) ps = option_map (λ (p : Pair). p.key) (find (is_fresh_under key t) ps)
used_by (Put key s) ps = if is_never_fresh s then None else Some key
used_by (Retire place) ps = None

abbrev pub used : List Call → List Pair → List CacheKey
used [] ps = []
used (c ∷ cs) ps = option_to_list (used_by c ps) ++ used cs (after c ps)

-- A call doesn't replace the pair's response, nor retire its place.
abbrev pub spares : Pair → Call → Bool
spares p (Get key t) = true
spares p (Put key s) = is_of_another key p
spares p (Retire place) = is_elsewhere place p

abbrev pub is_among : List CacheKey → CacheKey → Bool
is_among keys key = list_any (same_key key) keys

-- Where all other keys that are used are among fewer than are kept, the pair that stood first is
-- served.
abbrev pub TheLastUsedStay : Type 0
TheLastUsedStay =
    (p : Pair) (ps : List Pair) (calls : List Call) (others : List CacheKey) (t : ℕ)
    → KeysApart (p ∷ ps)
    → list_all (spares p) calls ≡ true
    → list_all (is_among (p.key ∷ others)) (used calls (p ∷ ps)) ≡ true
    → length others < MAX_STORED
    → is_fresh t p.stored ≡ true
    → served p.key t (after_all calls (p ∷ ps)) ≡ Some p.stored
