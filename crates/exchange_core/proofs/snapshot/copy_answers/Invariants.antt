use Rattle.std.proofs.Common.{◌≡◌, map, take}
use Rattle.exchange_core.specs.Answering.{given_of}
use Rattle.exchange_core.proofs.snapshot.copy_answers.Given as goal

abbrev pub invariant-each : goal.invariant-each
invariant-each g l = map given_of l.copy.items ≡ map given_of (take l.answer-index l.answers)
