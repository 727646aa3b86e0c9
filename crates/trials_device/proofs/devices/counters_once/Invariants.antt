use Rattle.demo_origin.specs.Kinds.{counters}
use Rattle.demo_origin.specs.Origins.{EachKeeps}
use Rattle.trials_device.proofs.devices.counters_once.Given as goal

abbrev pub invariant-each : goal.invariant-each
invariant-each l = EachKeeps counters l.all.items
