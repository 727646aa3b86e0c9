-- The transformers so far stand for the routes so far.
use Rattle.std.proofs.Common.{take}
use Rattle.route_bank.specs.Profiles.{StandFor}
use Rattle.loop_system.proofs.server.run_with_bank.Given as goal

abbrev pub invariant-each : goal.invariant-each
invariant-each g l = StandFor (take l.route-index l.route-items) l.all.items
