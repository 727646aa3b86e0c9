-- The gateway stays.
use Rattle.std.proofs.Common.{◌≡◌}
use Rattle.gateway_loop.proofs.turns.Loop.take_longest_parked.Given as goal

abbrev pub invariant-each : goal.invariant-each
invariant-each g l = l.self.gateway ≡ l.initial.self.gateway
