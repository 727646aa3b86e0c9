-- What was spent with what is left is all.
use Rattle.std.proofs.Common.{◌≡◌, ◌+◌}
use Rattle.std.specs.Prelude.{sum_by}
use Rattle.gateway_desk.proofs.turning.spend_all.Given as goal

abbrev pub invariant-each : goal.invariant-each
invariant-each g l =
    l.book.total + sum_by (λ p. p.amount) l.fn.passes.items ≡ l.initial.book.total + sum_by (λ p. p.amount) l.pass-iterator.rest.items
