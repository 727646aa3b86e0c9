use Rattle.std.proofs.Common.{◌≡◌, ◌++◌, map, take, drop}
use Rattle.message_layer.specs.Hearing.{answered}
use Rattle.message_layer.proofs.hearing.answer_each.Given as goal

abbrev pub invariant-each : goal.invariant-each
invariant-each l = l.awaited ≡ map (answered l.token) (take l.a-index l.initial.awaited) ++ drop l.a-index l.initial.awaited
