-- The rules stay.
use Rattle.std.proofs.Common.{◌≡◌}
use Rattle.gateway_loop.proofs.turns.Loop.seat_all.Given as goal

abbrev pub invariant-each : goal.invariant-each
invariant-each g l = l.it.gateway.world.rules ≡ l.fn.self.gateway.world.rules
