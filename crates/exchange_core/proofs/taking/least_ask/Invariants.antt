use Rattle.std.proofs.Common.{◌≡◌, map, take, min}
use Rattle.std.specs.List.{reduce}
use Rattle.exchange_core.proofs.taking.least_ask.Given as goal

abbrev pub invariant-each : goal.invariant-each
invariant-each g l = l.least ≡ reduce min (map (λ a. a.ask) (take l.answer-index l.answers))
