-- Who is told of changes asked for it (RFC 7641, section 3.1), over whole runs.
use Rattle.std.specs.Prelude.{◌≡◌, ℕ, List, take, slice_get, Option, Some, Ok}
use Rattle.std.specs.List.{AllByRecursion}
use Rattle.coap_codec.specs.Spelling.{Content}
use Rattle.coap_codec.specs.Reading.{message_at}
use Rattle.coap_codec.specs.Values.{values}
use Rattle.demo_origin.specs.Values.{Relation}
use Rattle.demo_origin.specs.Calls.{Call, Follow}
use Rattle.demo_origin.specs.Observing.{wish_of}
use Rattle.demo_origin.specs.Once.{heard}
use Rattle.demo_origin.specs.Origins.{fresh}
use Rattle.demo_origin.specs.Requests.{IsAt}
use Rattle.demo_origin.specs.declared.execution.Taken.{Taken}
use Rattle.demo_origin.specs.declared.observers.Wish.TheVariants.{Register}
use Rattle.demo_origin.specs.declared.state.Held.{Held}
use Rattle.demo_origin.specs.declared.state.Observer.{Observer}

-- The call heard a GET with Observe 0 from its peer, with its token, of the resource that it is
-- for.
pub record IsAskedIn (c : Call) (o : Observer) : Type 0 where
  pub moment : ℕ
  pub datagram : List ℕ
  pub taken : Option Taken
  pub comes : c.event ≡ heard moment o.peer datagram taken
  pub message : Content
  pub reads : message_at datagram ≡ Ok message
  pub get : message.code ≡ 1
  pub wish : wish_of (values 6 message.options) ≡ Register
  pub token : o.token ≡ message.token
  pub held : Held
  pub stood : IsAt (values 11 message.options) c.before.resources o.place held

pub record IsAskedFor (cs : List Call) (o : Observer) : Type 0 where
  pub number : ℕ
  pub call : Call
  pub among : slice_get cs number ≡ Some call
  pub asks : IsAskedIn call o

-- From a device that heard nothing yet on, each registration that stands before a call was asked
-- for in one of the calls before that.
abbrev pub RegistrationsAreAsked : Relation → Type 0
RegistrationsAreAsked R =
    (block : ℕ) (resources : List Held) (cs : List Call) (k : ℕ) (c : Call)
    → Follow R (fresh block resources) cs → slice_get cs k ≡ Some c
    → AllByRecursion (IsAskedFor (take k cs)) c.before.observers
