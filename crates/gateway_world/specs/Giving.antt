-- Entries of the journal leave memory.
use Rattle.std.specs.Prelude.{◌≡◌, ◌+◌, List, drop, take}
use Rattle.journal_book.specs.Entries.{Written}
use Rattle.gateway_world.specs.Worlds.{Memory, WorldValue, memory_of, with_memory}

-- The next 1,024 entries of the journal left memory: all else is as it was.
pub record IsGivenOut (segment : List Written) (old new : WorldValue) : Type 0 where
  pub segment_is : segment ≡ take 1024 (drop (memory_of old).given old.core.state.entries)
  pub memory : Memory
  pub given : memory.given ≡ (memory_of old).given + 1024
  pub is : new ≡ with_memory memory old
