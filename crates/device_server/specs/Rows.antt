-- What a row of settings stands for.
use Rattle.std.specs.Prelude.{◌≡◌, ℕ, List, [], ◌∷◌, ◌==◌, map, min}
use Rattle.std.specs.List.{slice_split}
use Rattle.demo_origin.specs.Keeps.{KeepsRelation}
use Rattle.demo_origin.specs.Origins.{fresh}
use Rattle.demo_origin.specs.Values.{Device}
use Rattle.demo_origin.specs.declared.state.Held.{Held}
use Rattle.demo_origin.specs.declared.resource.Resource.{Resource}
use Rattle.proxy_settings.specs.declared.device.Device.{Device as Settings}
use Rattle.proxy_settings.specs.declared.resource.Resource.{Resource as Row}
use Rattle.device_server.specs.Kinds.{relation_of}

-- a path, split at its slashes
abbrev pub segments_of : List ℕ → List (List ℕ)
segments_of path = slice_split (λ b. b == 47) path

-- the resource that a row says, with a handler of its kind
pub record IsRow {H X : Type 0} {F : X → Type 0} {g : _} (row : Row) (r : Resource H X F g)
    : Type 0 where
  pub path : r.path ≡ segments_of row.path
  pub state : r.state ≡ row.state
  pub format : r.format ≡ row.format
  pub max_age : r.max_age ≡ row.max_age
  pub kind : KeepsRelation (relation_of row.kind) r.handler

-- each row, in order
abbrev pub AreRows : {H X : Type 0} {F : X → Type 0} {g : _}
    → List Row → List (Resource H X F g) → Type 0
AreRows [] [] = Unit {0}
AreRows [] (r ∷ rs) = ⊥
AreRows (row ∷ rows) [] = ⊥
AreRows (row ∷ rows) (r ∷ rs) = IsRow row r × AreRows rows rs

-- what the resource of a row holds at first
abbrev pub held_by : Row → Held
held_by row = record {
  path = segments_of row.path;
  format = row.format;
  max_age = row.max_age;
  state = row.state;
  version = 0;
}

-- The device of the settings, before it hears anything: its blocks have 1,024 bytes at most.
abbrev pub device_by : Settings → Device
device_by s = fresh (min s.block 6) (map held_by s.resources)
