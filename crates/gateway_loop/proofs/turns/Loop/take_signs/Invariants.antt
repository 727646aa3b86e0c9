-- Signs change no world.
use Rattle.std.proofs.Common.{◌≡◌}
use Rattle.gateway_loop.proofs.turns.Loop.take_signs.Given as goal

abbrev pub invariant-each : goal.invariant-each
invariant-each g l = l.self.gateway.world ≡ l.initial.self.gateway.world
