-- The rules stay.
use Rattle.std.proofs.Common.{◌≡◌}
use Rattle.trials_loop.proofs.flowing.leave.Given as goal

abbrev pub invariant-each : goal.invariant-each
invariant-each g l = l.it.gateway.world.rules ≡ l.initial.it.gateway.world.rules
