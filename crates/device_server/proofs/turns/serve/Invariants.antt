use Rattle.std.proofs.Common.{◌≤◌}
use Rattle.demo_origin.specs.Origins.{Sound, device}
use Rattle.device_server.proofs.Going.{Goes}
use Rattle.device_server.proofs.turns.serve.Given as goal

abbrev pub invariant-each : goal.invariant-each
invariant-each g l =
    Sound g.H.Behaviour.relation l.origin
    × Goes g.H.Behaviour.relation l.number l.missed (device l.initial.origin) (device l.origin)
    (g.C.Clock.told l.initial.clock) (g.C.Clock.told l.clock)
    (g.L.Wire.came l.initial.wire) (g.L.Wire.came l.wire)
    (g.L.Wire.sent l.initial.wire) (g.L.Wire.sent l.wire)
    × (l.missed ≤ l.number)
