-- What is put with what is left are the asks of all passes.
use Rattle.std.proofs.Common.{◌≡◌, ◌++◌, drop}
use Rattle.gateway_desk.specs.Settled.{answered}
use Rattle.gateway_desk.proofs.settling.answered.Given as goal

abbrev pub invariant-each : goal.invariant-each
invariant-each g l = l.numbers.items ++ answered (drop l.pass-index l.passes) ≡ answered l.passes
