use Rattle.std.proofs.Common.{◌-◌, ◌<◌, ◌≤◌, length, take}
use Rattle.std.specs.List.{AllByRecursion}
use Rattle.resp_cache.specs.declared.names.Named.{Named}
use Rattle.resp_cache.proofs.names.end_before.Given as goal

abbrev pub invariant-each : goal.invariant-each
invariant-each l = (l.first ≤ l.end) × (l.end ≤ length l.names) × AllByRecursion (λ (n : Named). n.rank < l.rank) (take l.end l.names)

abbrev pub decreases-each : goal.decreases-each
decreases-each l = length l.names - l.end
