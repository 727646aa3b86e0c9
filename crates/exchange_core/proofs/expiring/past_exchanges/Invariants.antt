use Rattle.std.proofs.Common.{◌≡◌, ◌++◌, drop}
use Rattle.std.specs.Prelude.{filter}
use Rattle.exchange_model.specs.Hearing.{is_past}
use Rattle.exchange_core.proofs.expiring.past_exchanges.Given as goal

abbrev pub invariant-each : goal.invariant-each
invariant-each l = l.past.items ++ filter (is_past l.moment) (drop l.e-index l.exchanges)
    ≡ filter (is_past l.moment) l.exchanges
