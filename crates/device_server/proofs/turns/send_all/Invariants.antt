use Rattle.std.proofs.Common.{◌≡◌, length}
use Rattle.demo_origin.specs.Origins.{Sound, device}
use Rattle.device_server.proofs.Going.{Giving}
use Rattle.device_server.proofs.turns.send_all.Given as goal

abbrev pub invariant-each : goal.invariant-each
invariant-each g l =
    Sound g.H.Behaviour.relation l.origin
    × Giving (device l.initial.origin) (device l.origin) (g.L.Wire.sent l.initial.wire)
    (g.L.Wire.sent l.wire)
    × (g.L.Wire.came l.wire ≡ g.L.Wire.came l.initial.wire)
    × (g.L.Wire.failed l.wire ≡ g.L.Wire.failed l.initial.wire)

abbrev pub decreases-each : goal.decreases-each
decreases-each g l = length (device l.origin).out
