use Rattle.std.proofs.Common.{◌≡◌, take}
use Rattle.message_layer.proofs.calls.copy_waiting.Given as goal

abbrev pub invariant-each : goal.invariant-each
invariant-each l = l.copy.items ≡ take l.w-index l.waiting
