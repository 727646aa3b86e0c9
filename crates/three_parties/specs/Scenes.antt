-- What a turn does to the proxy, the network and the device.
use Rattle.std.specs.Prelude.{◌≡◌, ℕ, List, [], ◌∷◌, ◌++◌, map, slice_get, Option, Some, None}
use Rattle.std.specs.Borrow.{Bor}
use Rattle.media_map.specs.declared.form.Form.{Form}
use Rattle.demo_origin.specs.Values.{Device, Relation}
use Rattle.demo_origin.specs.Hearing.{Hears}
use Rattle.demo_origin.specs.Origins.{Ticks}
use Rattle.demo_origin.specs.declared.execution.Taken.{Taken}
use Rattle.exchange_model.specs.Room.{KeptInRoom}
use Rattle.gateway_model.specs.declared.input.Happening.{Happening}
use Rattle.gateway_model.specs.declared.input.Happening.TheVariants as H
use Rattle.gateway_model.specs.declared.input.Input.{Input}
use Rattle.gateway_model.specs.Emissions.{Emission}
use Rattle.gateway_model.specs.Going.{goes_in}
use Rattle.gateway_world.specs.Inputs.{Takes}
use Rattle.gateway_world.specs.Worlds.{WorldValue, counted}
use Rattle.three_parties.specs.Flights.{Going, by_proxy, by_device, device_at, proxy_at, Reach, ToProxy, ToDevice, Nowhere, reach}
use Rattle.three_parties.specs.declared.story.Execution.{Execution}
use Rattle.three_parties.specs.declared.turn.Turn.{Turn}
use Rattle.three_parties.specs.declared.turn.Turn.TheVariants as T

-- how the three stand after some turns: the moment of the last turn, the proxy and the device; and
-- what came of all turns so far: what the proxy gave out, which datagrams were sent, in order, and
-- what the device executed
pub record Scene : Type 0 where
  pub moment : ℕ
  pub world : WorldValue
  pub device : Device
  pub out : List Emission
  pub flights : List Going
  pub taken : List Execution

-- time goes on
abbrev pub later : ℕ → Scene → Scene
later t s = record s { moment = t }

-- what the proxy gives out comes after what it gave out before, and its datagrams are sent
abbrev pub gave : ℕ → WorldValue → List Emission → Scene → Scene
gave t w given s = record s {
  moment = t;
  world = w;
  out = s.out ++ given;
  flights = s.flights ++ map (by_proxy t) (goes_in given);
}

-- the datagrams of the device are sent, and what it executed comes after what it did before
abbrev pub answered : ℕ → Device → List Execution → Scene → Scene
answered t d more s = record s {
  moment = t;
  device = record d { out = [] };
  flights = s.flights ++ map (by_device t) d.out;
  taken = s.taken ++ more;
}

-- what was executed by the datagram with this number, if anything was
abbrev pub executed : ℕ → ℕ → Option Taken → List Execution
executed t n None = []
executed t n (Some x) = record { moment = t; number = n; taken = x } ∷ []

module _ (holds : Form → Form → List ℕ → List ℕ → Type 0)
    (takes : Form → Form → List ℕ → Type 0) (R : Relation) where
  -- The proxy takes an input at this moment. What it keeps until then is what its journal says.
  pub record ProxyTakes (t : ℕ) (i : Input) (old new : Scene) : Type 0 where
    pub given : List Emission
    pub world : WorldValue
    pub kept : KeptInRoom old.world.core.state
    pub takes_it : Takes holds takes (record i { moment = t }) old.world given world
    pub is : new ≡ gave t world given old

  -- The device looks at its timers.
  pub record DeviceLooks (t : ℕ) (old new : Scene) : Type 0 where
    pub device : Device
    pub ticks : Ticks t old.device device
    pub is : new ≡ answered t device [] old

  -- The device hears the datagram with this number from the proxy.
  pub record DeviceHears (t n : ℕ) (bytes : List ℕ) (old new : Scene) : Type 0 where
    pub device : Device
    pub told : Option Taken
    pub hears : Hears R t proxy_at bytes old.device device told
    pub is : new ≡ answered t device (executed t n told) old

  -- The proxy hears a datagram from the device.
  pub record ProxyHears (t word : ℕ) (bytes : List ℕ) (old new : Scene) : Type 0 where
    pub datagram : Bor (List ℕ)
    pub has : datagram.now ≡ bytes
    pub takes_it :
        ProxyTakes t (record { moment = t; word = word; happening = H.Datagram device_at datagram })
        old new

  abbrev pub Reaches : ℕ → ℕ → ℕ → Reach → Scene → Scene → Type 0
  Reaches t word n (ToProxy bytes) old new = ProxyHears t word bytes old new
  Reaches t word n (ToDevice bytes) old new = DeviceHears t n bytes old new
  Reaches t word n Nowhere old new = new ≡ later t old

  -- A datagram that is no delivery's is lost.
  abbrev pub TakesInput : ℕ → Input → Happening → Scene → Scene → Type 0
  TakesInput t i (H.Datagram p bytes) old new = new ≡ later t old
  TakesInput t i x old new = ProxyTakes t i old new

  abbrev pub TakesTurn : Turn → Scene → Scene → Type 0
  TakesTurn (T.Proxy i) old new =
      TakesInput (counted old.moment i.moment) i i.happening old new
  TakesTurn (T.Device m) old new = DeviceLooks (counted old.moment m) old new
  TakesTurn (T.Deliver w n) old new =
      let t = counted old.moment w.moment in
      Reaches t w.word n (reach t (slice_get old.flights n)) old new

  -- turns, one after another
  abbrev pub TakesTurns : List Turn → Scene → Scene → Type 0
  TakesTurns [] old new = new ≡ old
  TakesTurns (x ∷ xs) old new = (mid : Scene) × TakesTurn x old mid × TakesTurns xs mid new
