-- The sum so far.
use Rattle.std.proofs.Common.{◌≡◌, take}
use Rattle.std.specs.Prelude.{sum_by}
use Rattle.gateway_desk.proofs.settling.count_made.Given as goal

abbrev pub invariant-each : goal.invariant-each
invariant-each g l = l.made ≡ sum_by (λ p. p.amount) (take l.pass-index l.passes)
