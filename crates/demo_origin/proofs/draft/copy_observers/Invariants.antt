use Rattle.std.proofs.Common.{◌≡◌, take}
use Rattle.demo_origin.proofs.draft.copy_observers.Given as goal

abbrev pub invariant-each : goal.invariant-each
invariant-each l = l.copy.items ≡ take l.o-index l.observers
