use Rattle.demo_origin.specs.Origins.{Sound}
use Rattle.trials_device.proofs.steps.fails_at.Given as goal

abbrev pub invariant-each : goal.invariant-each
invariant-each g l = Sound g.H.Behaviour.relation l.origin
