-- Words for what the code passes from one step of a turn to the next.
use Rattle.std.specs.Prelude.{[]}
use Rattle.std.specs.Arc.{arc_value}
use Rattle.demo_origin.specs.Values.{Device}
use Rattle.gateway_world.specs.Worlds.{IsTooMuch, served_in}
use Rattle.three_parties.specs.Flights.{Reach, ToProxy, ToDevice, Nowhere, going_as, reach_by}
use Rattle.three_parties.specs.Scenes.{Scene}
use Rattle.three_parties.specs.declared.flight.Arriving.{Arriving}
use Rattle.three_parties.specs.declared.flight.Arriving.TheVariants as A
use Rattle.three_parties.specs.declared.flight.Sent.{Sent}
use Rattle.three_parties.specs.declared.turn.Turn.{Turn}
use Rattle.three_parties.specs.declared.turn.Turn.TheVariants as T

abbrev pub reach_of : Arriving → Reach
reach_of (A.ToProxy bytes) = ToProxy bytes
reach_of (A.ToDevice bytes) = ToDevice (arc_value bytes)
reach_of A.Nowhere = Nowhere

-- where a datagram comes that is on its way no longer than it may be
abbrev pub reach_in_time : Sent → Reach
reach_in_time sent = let g = going_as 0 sent in reach_by g.by g.peer g.bytes

-- a device that gave out all that was to be sent
abbrev pub emptied : Device → Device
emptied s = record s { out = [] }

-- The turn hands the proxy more bytes than may wait unread.
abbrev pub IsFull : Turn → Scene → Type 0
IsFull (T.Proxy i) s = IsTooMuch i.happening (served_in s.world)
IsFull _ s = ⊥
