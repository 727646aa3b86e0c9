use Rattle.std.proofs.Common.{◌≡◌, drop}
use Rattle.demo_origin.specs.Kinds.{counted, counted_from}
use Rattle.demo_origin.proofs.kinds.counted.Given as goal

abbrev pub invariant-each : goal.invariant-each
invariant-each l = counted_from l.n (drop l.c-index l.state) ≡ counted l.state
