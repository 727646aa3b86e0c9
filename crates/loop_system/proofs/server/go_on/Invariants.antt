-- The rules stay.
use Rattle.std.proofs.Common.{◌≡◌}
use Rattle.loop_system.proofs.server.go_on.Given as goal

abbrev pub invariant-each : goal.invariant-each
invariant-each g l = l.it.gateway.world.rules ≡ l.fn.it.gateway.world.rules
