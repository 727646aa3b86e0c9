use Rattle.std.proofs.Common.{◌≢◌, take}
use Rattle.std.specs.List.{All}
use Rattle.exchange_core.specs.declared.answer.Answer.{Answer}
use Rattle.exchange_core.proofs.taking.answer_place.Given as goal

abbrev pub invariant-each : goal.invariant-each
invariant-each g l = All (λ (a : Answer g.row.R.Denot). a.ask ≢ l.ask) (take l.place l.answers)
