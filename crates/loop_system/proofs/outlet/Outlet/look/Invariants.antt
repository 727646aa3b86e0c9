-- The rules stay.
use Rattle.std.proofs.Common.{◌≡◌}
use Rattle.loop_system.proofs.outlet.Outlet.look.Given as goal

abbrev pub invariant-each : goal.invariant-each
invariant-each g l = l.it.gateway.world.rules ≡ l.initial.it.gateway.world.rules
