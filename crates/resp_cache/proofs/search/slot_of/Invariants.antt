use Rattle.std.proofs.Common.{◌≡◌, ◌<◌, ℕ, false, get_or}
use Rattle.resp_cache.specs.Slots.{holds, slot_at}
use Rattle.resp_cache.specs.declared.names.Named.{Named}
use Rattle.resp_cache.proofs.search.slot_of.Given as goal

abbrev pub invariant-each : goal.invariant-each
invariant-each l = (k : ℕ) (d : Named) → k < l.name-index → holds l.key (slot_at l.slots (get_or l.name-items k d).slot) ≡ false
