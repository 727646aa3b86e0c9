use Rattle.std.proofs.Common.{◌≡◌, map, take}
use Rattle.transformers.specs.Keeps.{pair_of}
use Rattle.transformers.proofs.bank.Bank.routes.Given as goal

abbrev pub invariant-each : goal.invariant-each
invariant-each g l = l.all ≡ map pair_of (take l.s-index l.s-items)
