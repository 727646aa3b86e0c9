-- The story of turns.
use Rattle.std.specs.Prelude.{◌≡◌, ℕ, List, [], ◌∷◌, ◌++◌, map}
use Rattle.media_map.specs.declared.form.Form.{Form}
use Rattle.ask_model.specs.Views.{Rules}
use Rattle.journal_book.specs.Entries.{Written}
use Rattle.demo_origin.specs.Values.{Device, Relation}
use Rattle.demo_origin.specs.Origins.{device}
use Rattle.gateway_model.specs.declared.input.Input.{Input}
use Rattle.gateway_model.specs.Emissions.{Emission, emissions}
use Rattle.gateway_world.specs.Worlds.{WorldValue, IsTooMuch, new_world, served_in}
use Rattle.three_parties.specs.Flights.{Going, going}
use Rattle.three_parties.specs.Scenes.{Scene, TakesTurns}
use Rattle.three_parties.specs.declared.stage.Stage.{Stage}
use Rattle.three_parties.specs.declared.story.Execution.{Execution}
use Rattle.three_parties.specs.declared.turn.Turn.{Turn}
use Rattle.three_parties.specs.declared.turn.Turn.TheVariants as T

-- the three as they stand in the code
abbrev pub scene : {R H X : Type 0} {F : X → Type 0} {g : _} → Stage R H X F g → Scene
scene s = record {
  moment = s.moment;
  world = s.world;
  device = device s.origin;
  out = emissions s.outputs.items;
  flights = map going s.flights.items;
  taken = s.taken.items;
}

-- before the first turn: a proxy to which nothing has happened, and this device
abbrev pub opening : Rules → Device → Scene
opening rules d = record {
  moment = 0;
  world = new_world rules;
  device = d;
  out = [];
  flights = [];
  taken = [];
}

module _ (holds : Form → Form → List ℕ → List ℕ → Type 0)
    (takes : Form → Form → List ℕ → Type 0) (R : Relation) where
  -- What the proxy gave out, which datagrams were sent, what the last journal has, how the device
  -- stands and what it executed are what all these turns lead to, one after another.
  pub record IsStory (rules : Rules) (first : Device) (turns : List Turn) (out : List Emission)
      (flights : List Going) (h : List Written) (last : Device) (taken : List Execution)
      : Type 0 where
    pub moment : ℕ
    pub world : WorldValue
    pub is : TakesTurns holds takes R turns (opening rules first) (record {
      moment = moment;
      world = world;
      device = last;
      out = out;
      flights = flights;
      taken = taken;
    })
    pub journal : h ≡ world.core.state.entries

  -- An input among the turns, before which all were taken, brings more bytes than may wait unread.
  pub record IsRefused (turns : List Turn) (old : Scene) : Type 0 where
    pub before : List Turn
    pub input : Input
    pub after : List Turn
    pub are : turns ≡ before ++ T.Proxy input ∷ after
    pub scene : Scene
    pub taken : TakesTurns holds takes R before old scene
    pub full : IsTooMuch input.happening (served_in scene.world)
