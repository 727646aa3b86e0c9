use Rattle.std.proofs.Common.{◌≡◌, ◌++◌, map, take, drop}
use Rattle.demo_origin.specs.Observing.{relieved}
use Rattle.demo_origin.proofs.observers.relieve_each.Given as goal

abbrev pub invariant-each : goal.invariant-each
invariant-each l =
    l.observers
    ≡ map (relieved l.peer l.mid) (take l.o-index l.initial.observers)
    ++ drop l.o-index l.initial.observers
