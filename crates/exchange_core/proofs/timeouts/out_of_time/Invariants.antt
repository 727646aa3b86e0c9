use Rattle.std.proofs.Common.{◌≡◌, ◌++◌, drop}
use Rattle.exchange_core.specs.Ending.{out_of_time}
use Rattle.exchange_core.proofs.timeouts.out_of_time.Given as goal

abbrev pub invariant-each : goal.invariant-each
invariant-each l = l.told.items ++ out_of_time l.exchanges (drop l.reader-index l.readers)
    ≡ out_of_time l.exchanges l.readers
