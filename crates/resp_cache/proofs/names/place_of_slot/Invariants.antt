use Rattle.std.proofs.Common.{◌≡◌, ◌-◌, ◌≤◌, false, length, take}
use Rattle.std.specs.List.{AllByRecursion}
use Rattle.resp_cache.specs.Names.{names_slot}
use Rattle.resp_cache.specs.declared.names.Named.{Named}
use Rattle.resp_cache.proofs.names.place_of_slot.Given as goal

abbrev pub invariant-each : goal.invariant-each
invariant-each l = (l.place ≤ length l.names) × AllByRecursion (λ (n : Named). names_slot l.slot n ≡ false) (take l.place l.names)

abbrev pub decreases-each : goal.decreases-each
decreases-each l = length l.names - l.place
