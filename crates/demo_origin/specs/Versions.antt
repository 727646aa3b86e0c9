-- Versions tell the states of a resource apart, over whole runs. A version is the ETag of what is
-- shown, so pieces with one ETag are pieces of one state (RFC 7959, section 2.4).
use Rattle.std.specs.Prelude.{◌≡◌, ◌<◌, ◌≤◌, ◌^◌, ℕ, List, slice_get, Some}
use Rattle.std.specs.Int.{to_be_bytes, w64}
use Rattle.demo_origin.specs.Values.{Device, Relation}
use Rattle.demo_origin.specs.Once.{Event, Runs}
use Rattle.demo_origin.specs.declared.state.Held.{Held}

-- the same resource later: its version didn't fall, nor outgrew an ETag of eight bytes, and of the
-- same version it has the same state
pub record IsLater (old new : Held) : Type 0 where
  pub path : new.path ≡ old.path
  pub format : new.format ≡ old.format
  pub max_age : new.max_age ≡ old.max_age
  pub version : old.version ≤ new.version
  pub eight_bytes : old.version < 2 ^ 64 → new.version < 2 ^ 64
  pub state : new.version ≡ old.version → new.state ≡ old.state

-- it stands at that number still
pub record StandsLater (i : ℕ) (old : Held) (resources : List Held) : Type 0 where
  pub held : Held
  pub stands : slice_get resources i ≡ Some held
  pub later : IsLater old held

abbrev pub VersionsTell : Relation → Type 0
VersionsTell R =
    (es : List Event) (old new : Device) (i : ℕ) (held : Held)
    → Runs R es old new → slice_get old.resources i ≡ Some held
    → StandsLater i held new.resources

-- A resource that has the ETag that it had before has the state that it had. So a 2.03 says that the
-- state is the one that was shown under its ETag, however long ago.
abbrev pub TagsTell : Relation → Type 0
TagsTell R =
    (es : List Event) (old new : Device) (i : ℕ) (held now : Held)
    → Runs R es old new → slice_get old.resources i ≡ Some held
    → slice_get new.resources i ≡ Some now → held.version < 2 ^ 64
    → to_be_bytes w64 now.version ≡ to_be_bytes w64 held.version → now.state ≡ held.state
