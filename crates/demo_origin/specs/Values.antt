-- What a device is to its users.
use Rattle.std.specs.Prelude.{ℕ, List, Bool}
use Rattle.demo_origin.specs.declared.state.Held.{Held}
use Rattle.demo_origin.specs.declared.state.Client.{Client}
use Rattle.demo_origin.specs.declared.state.Remembered.{Remembered}
use Rattle.demo_origin.specs.declared.state.Upload.{Upload}
use Rattle.demo_origin.specs.declared.state.Observer.{Observer}
use Rattle.demo_origin.specs.declared.state.Datagram.{Datagram}
use Rattle.demo_origin.specs.declared.state.State.{State}
use Rattle.demo_origin.specs.declared.request.CoapRequest.{CoapRequest}
use Rattle.demo_origin.specs.declared.request.Reply.{Reply}

pub record Device : Type 0 where
  -- the size exponent of its pieces
  pub block : ℕ
  -- in the order in which they are looked up
  pub resources : List Held
  -- the peers that are known
  pub clients : List Client
  -- the messages that were heard, and are not processed again
  pub remembered : List Remembered
  -- the bodies of which some pieces came
  pub uploads : List Upload
  -- who is told of changes, in the order of their registrations
  pub observers : List Observer
  -- the datagrams to be given out, in order
  pub out : List Datagram

abbrev pub seen : State → Device
seen s = record {
  block = s.block.szx;
  resources = s.resources.items;
  clients = s.clients.items;
  remembered = s.remembered.items;
  uploads = s.uploads.items;
  observers = s.observers.items;
  out = s.out.items;
}

-- a reply without where it lies in memory
pub record Replied : Type 0 where
  pub code : ℕ
  pub payload : List ℕ
  pub changed : Bool

abbrev pub replied : Reply → Replied
replied r = record { code = r.code; payload = r.payload.items; changed = r.changed }

-- What handlers keep. `holds` speaks of the state before, the request, the state after and the
-- reply; `takes` of the state before and the request, which may not be refused then.
pub record Relation : Type 1 where
  pub holds : List ℕ → CoapRequest → List ℕ → Replied → Type 0
  pub takes : List ℕ → CoapRequest → Type 0
