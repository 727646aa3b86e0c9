use Rattle.std.proofs.Common.{◌≡◌, drop}
use Rattle.exchange_model.specs.Due.{earlier}
use Rattle.exchange_core.specs.Due.{next_late}
use Rattle.exchange_core.proofs.due.next_late.Given as goal

abbrev pub invariant-each : goal.invariant-each
invariant-each l = earlier l.first (next_late (drop l.reader-index l.readers) l.exchanges)
    ≡ next_late l.readers l.exchanges
