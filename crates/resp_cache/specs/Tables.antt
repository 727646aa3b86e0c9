-- The pairs in their slots, the order of the slots' use, and the index.
use Rattle.std.specs.Prelude.{◌≡◌, ℕ, ◌≤◌, Bool, ◌&&◌, ◌||◌, nat_le, nat_lt, List, Option, length, vec_capacity, vec_len}
use Rattle.limits.specs.declared.TheConstants.{MAX_STORED}
use Rattle.resp_cache.specs.Names.{IsNamed}
use Rattle.resp_cache.specs.Rings.{IsOrder}
use Rattle.resp_cache.specs.Slots.{ArePacked, pairs_in}
use Rattle.resp_cache.specs.Stores.{KeysApart}
use Rattle.resp_cache.specs.declared.names.Named.{Named}
use Rattle.resp_cache.specs.declared.pair.Pair.{Pair}
use Rattle.resp_cache.specs.declared.table.Table.{Table}

-- Each slot stands once in the order of use, the empty ones last, and the index has those that are
-- taken. No key stands twice.
pub record AreStored (slots : List (Option Pair)) (os : List ℕ) (ns : List Named) : Type 0 where
  pub few : length slots ≤ MAX_STORED
  pub sized : length os ≡ length slots
  pub order : IsOrder os
  pub packed : ArePacked slots os
  pub named : IsNamed slots ns
  pub counted : length ns ≡ length (pairs_in slots os)
  pub apart : KeysApart (pairs_in slots os)

abbrev pub IsTable : Table → Type 0
IsTable t = AreStored t.slots.items t.ring.items t.names.items

-- the pairs, the last used first
abbrev pub pairs_of : Table → List Pair
pairs_of t = pairs_in t.slots.items t.ring.items

-- A slot is empty.
abbrev pub has_free : Table → Bool
has_free t = nat_lt (vec_len t.names) (vec_len t.slots)

abbrev pub has_name_room : Table → Bool
has_name_room t = nat_lt (vec_len t.names) (vec_capacity t.names)

-- A slot can be opened.
abbrev pub has_slot_room : Table → Bool
has_slot_room t = nat_lt (vec_len t.slots) (vec_capacity t.slots) && t.ring.room

-- One more pair takes the place of the last one.
abbrev pub is_full : Table → Bool
is_full t = nat_le MAX_STORED (vec_len t.names)

-- One more pair can be put without memory.
abbrev pub has_table_room : Table → Bool
has_table_room t = is_full t || (has_name_room t && (has_free t || has_slot_room t))
