use Rattle.std.proofs.Common.{map, take, Contains}
use Rattle.transformers.specs.Keeps.{pair_of}
use Rattle.transformers.proofs.bank.Bank.first_for.Given as goal

abbrev pub invariant-each : goal.invariant-each
invariant-each g l = ¬ Contains (map pair_of (take l.s-index l.s-items)) (l.from, l.to)
