use Rattle.std.proofs.Common.{◌≡◌, ◌++◌, drop}
use Rattle.resp_cache.specs.Slots.{pairs_in}
use Rattle.resp_cache.proofs.filling.shared_in.Given as goal

abbrev pub invariant-each : goal.invariant-each
invariant-each l = l.pairs.items ++ pairs_in l.slots (drop l.slot-index l.order) ≡ pairs_in l.slots l.order
