-- What is true of every device, and what the calls do that hear nothing.
use Rattle.std.specs.Prelude.{◌≡◌, ℕ, List, [], ◌∷◌, ◌++◌, length, filter, Contains, Option, Some, None}
use Rattle.demo_origin.specs.Values.{Device, Relation, seen}
use Rattle.demo_origin.specs.Arrivals.{is_live, is_kept}
use Rattle.demo_origin.specs.Notifying.{Talk, talk_of, with_talk, without_lost, CopiesAll, TellsAll}
use Rattle.demo_origin.specs.Uploads.{is_from}
use Rattle.demo_origin.specs.declared.state.Client.{Client}
use Rattle.demo_origin.specs.Keeps.{AllKeep, KeepsRelation}
use Rattle.demo_origin.specs.declared.state.Datagram.{Datagram}
use Rattle.demo_origin.specs.declared.state.Held.{Held}
use Rattle.demo_origin.specs.declared.origin.Origin.{Origin}
use Rattle.demo_origin.specs.declared.resource.Resource.{Resource}

abbrev pub device : {H X : Type 0} {F : X → Type 0} {g : _} → Origin H X F g → Device
device o = seen o.state

-- how many resources it has
abbrev pub count : {H X : Type 0} {F : X → Type 0} {g : _} → Origin H X F g → ℕ
count o = length o.state.resources.items

-- Each resource has its handler, and each handler keeps the relation.
pub record Sound {H X : Type 0} {F : X → Type 0} {g : _}
    (R : Relation) (o : Origin H X F g) : Type 0 where
  pub keep : AllKeep R o.handlers.items
  pub one_each : length o.handlers.items ≡ length o.state.resources.items

-- the handlers of resources that are handed in keep the relation
pub record EachKeeps {H X : Type 0} {F : X → Type 0} {g : _}
    (R : Relation) (resources : List (Resource H X F g)) : Type 0 where
  pub each : (r : Resource H X F g) → Contains resources r → KeepsRelation R r.handler

-- a device that heard nothing yet
abbrev pub fresh : ℕ → List Held → Device
fresh block resources = record {
  block = block;
  resources = resources;
  clients = [];
  remembered = [];
  uploads = [];
  observers = [];
  out = [];
}

-- a resource as it is at first
abbrev pub held_of : {H X : Type 0} {F : X → Type 0} {g : _} → Resource H X F g → Held
held_of r = record {
  path = r.path;
  format = r.format;
  max_age = r.max_age;
  state = r.state;
  version = 0;
}

abbrev pub with_one : Held → Device → Device
with_one h s = record s { resources = s.resources ++ h ∷ [] }

-- the peers that are known still
abbrev pub known_at : ℕ → Device → List Client
known_at t s = filter (is_kept t s.observers) s.clients

-- what was answered too long ago is forgotten, and who isn't known, with the pieces
abbrev pub ticked : ℕ → Device → Device
ticked t s = record s {
  clients = known_at t s;
  remembered = filter (is_live t) s.remembered;
  uploads = filter (is_from (known_at t s)) s.uploads;
}

-- Observers that can't be reached are dropped, copies go out, and what waited for its turn.
pub record Ticks (t : ℕ) (old new : Device) : Type 0 where
  pub copied : Talk
  pub told : Talk
  pub copies : CopiesAll t old.block old.resources (without_lost t (talk_of old)) copied
  pub tells : TellsAll t old.block old.resources copied told
  pub is : new ≡ ticked t (with_talk told old)

abbrev pub sent_by : Device → List Datagram → Device × Option Datagram
sent_by s [] = (s, None)
sent_by s (d ∷ ds) = (record s { out = ds }, Some d)

-- the first datagram is taken away
abbrev pub sent_out : Device → Device × Option Datagram
sent_out s = sent_by s s.out
