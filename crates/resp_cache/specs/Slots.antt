-- Pairs in slots, which are numbered from 1 on. Some slots may be empty.
use Rattle.std.specs.Prelude.{◌≡◌, ℕ, zero, suc, Bool, false, ◌==◌, List, [], ◌∷◌, Option, Some, None, get_or, if◌then◌else◌, ⊤}
use Rattle.std.specs.List.{AllByRecursion}
use Rattle.cache_key.specs.Keys.{CacheKey, same_place}
use Rattle.resp_cache.specs.Stores.{is_of}
use Rattle.resp_cache.specs.declared.pair.Pair.{Pair}

-- what stands in a slot
abbrev pub slot_at : List (Option Pair) → ℕ → Option Pair
slot_at slots zero = None
slot_at slots (suc i) = get_or slots i None

abbrev pub with_pair : Option Pair → List Pair → List Pair
with_pair None ps = ps
with_pair (Some p) ps = p ∷ ps

-- the pairs in these slots, in their order
abbrev pub pairs_in : List (Option Pair) → List ℕ → List Pair
pairs_in slots [] = []
pairs_in slots (s ∷ os) = with_pair (slot_at slots s) (pairs_in slots os)

abbrev pub AreEmpty : List (Option Pair) → List ℕ → Type 0
AreEmpty slots os = AllByRecursion (λ s. slot_at slots s ≡ None) os

-- Behind an empty slot no other is taken.
abbrev pub ArePacked : List (Option Pair) → List ℕ → Type 0
ArePacked slots [] = ⊤
ArePacked slots (s ∷ os) = (slot_at slots s ≡ None → AreEmpty slots os) × ArePacked slots os

-- This is put into the slot, and the others stay.
abbrev pub Puts : List (Option Pair) → List (Option Pair) → ℕ → Option Pair → Type 0
Puts slots after s o = (t : ℕ) → slot_at after t ≡ (if t == s then o else slot_at slots t)

-- The slot holds the key's pair.
abbrev pub holds : CacheKey → Option Pair → Bool
holds key None = false
holds key (Some p) = is_of key p

-- The slot holds a pair of the key's place.
abbrev pub holds_near : CacheKey → Option Pair → Bool
holds_near key None = false
holds_near key (Some p) = same_place p.key.place key.place
