use Rattle.std.proofs.Common.{◌≡◌, take}
use Rattle.reply_reading.proofs.renewing.copy_values.Given as goal

abbrev pub invariant-each : goal.invariant-each
invariant-each l = l.copies.items ≡ take l.value-index l.value-items
