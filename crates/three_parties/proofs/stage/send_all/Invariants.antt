-- So much of what the device gives was sent.
use Rattle.std.proofs.Common.{length, map}
use Rattle.demo_origin.specs.Origins.{Sound, device}
use Rattle.three_parties.specs.Flights.{going}
use Rattle.three_parties.proofs.Sending.{Giving}
use Rattle.three_parties.proofs.stage.send_all.Given as goal

abbrev pub invariant-each : goal.invariant-each
invariant-each g l =
    Sound g.H.Behaviour.relation l.origin
    × Giving l.moment (device l.initial.origin) (device l.origin) (map going l.initial.flights.items) (map going l.flights.items)

abbrev pub decreases-each : goal.decreases-each
decreases-each g l = length (device l.origin).out
