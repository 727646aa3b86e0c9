use Rattle.std.proofs.Common.{◌≡◌, ◌++◌, drop}
use Rattle.std.specs.Prelude.{filter}
use Rattle.exchange_core.specs.Expiring.{is_over_by}
use Rattle.exchange_core.proofs.expiring.over_by.Given as goal

abbrev pub invariant-each : goal.invariant-each
invariant-each l = l.over.items ++ filter (is_over_by l.moment l.given) (drop l.e-index l.exchanges)
    ≡ filter (is_over_by l.moment l.given) l.exchanges
