-- The datagrams of the first outputs were sent.
use Rattle.std.proofs.Common.{◌≡◌, ◌++◌, map, take}
use Rattle.three_parties.specs.Flights.{going}
use Rattle.three_parties.proofs.Sending.{goings}
use Rattle.three_parties.proofs.stage.send_given.Given as goal

abbrev pub invariant-each : goal.invariant-each
invariant-each g l =
    map going l.flights.items ≡ map going l.initial.flights.items ++ goings l.moment (take l.output-index l.given)
