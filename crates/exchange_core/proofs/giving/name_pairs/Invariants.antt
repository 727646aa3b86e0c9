use Rattle.std.proofs.Common.{◌≡◌, ◌++◌, drop}
use Rattle.std.specs.List.{flat_map}
use Rattle.exchange_core.specs.Giving.{last_of}
use Rattle.exchange_core.proofs.giving.name_pairs.Given as goal

abbrev pub invariant-each : goal.invariant-each
invariant-each l = l.numbers.items ++ flat_map last_of (drop l.pair-index l.pairs)
    ≡ l.initial.numbers.items ++ flat_map last_of l.pairs
