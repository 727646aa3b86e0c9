use Rattle.std.proofs.Common.{◌≡◌, map, take}
use Rattle.exchange_model.specs.Entering.{token_of}
use Rattle.exchange_core.proofs.expiring.tokens_of.Given as goal

abbrev pub invariant-each : goal.invariant-each
invariant-each l = l.tokens.items ≡ map token_of (take l.e-index l.exchanges)
