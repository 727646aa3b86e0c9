use Rattle.std.proofs.Common.{◌≡◌, ◌++◌, drop, map}
use Rattle.exchange_core.specs.Giving.{ask_of}
use Rattle.exchange_core.proofs.giving.name_readers.Given as goal

abbrev pub invariant-each : goal.invariant-each
invariant-each l = l.numbers.items ++ map ask_of (drop l.reader-index l.readers)
    ≡ l.initial.numbers.items ++ map ask_of l.readers
