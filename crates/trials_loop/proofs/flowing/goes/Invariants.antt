-- The rules stay.
use Rattle.std.proofs.Common.{◌≡◌}
use Rattle.trials_loop.proofs.flowing.goes.Given as goal

abbrev pub invariant-each : goal.invariant-each
invariant-each g l = l.it.gateway.world.rules ≡ l.fn.it.gateway.world.rules
