use Rattle.std.proofs.Common.{◌≡◌, ◌++◌, drop}
use Rattle.std.specs.List.{flat_map}
use Rattle.exchange_core.specs.Giving.{named_by}
use Rattle.exchange_core.proofs.giving.name_exchanges.Given as goal

abbrev pub invariant-each : goal.invariant-each
invariant-each l = l.numbers.items ++ flat_map named_by (drop l.exchange-index l.exchanges)
    ≡ l.initial.numbers.items ++ flat_map named_by l.exchanges
