use Rattle.std.proofs.Common.{◌≡◌, ◌++◌, drop, map}
use Rattle.exchange_core.specs.Giving.{opening_of}
use Rattle.exchange_core.proofs.giving.name_watches.Given as goal

abbrev pub invariant-each : goal.invariant-each
invariant-each l = l.numbers.items ++ map opening_of (drop l.watch-index l.watches)
    ≡ l.initial.numbers.items ++ map opening_of l.watches
