use Rattle.std.proofs.Common.{◌≡◌, take}
use Rattle.resp_cache.proofs.table.share_slots.Given as goal

abbrev pub invariant-each : goal.invariant-each
invariant-each l = l.shared.items ≡ take l.slot-index l.slots
