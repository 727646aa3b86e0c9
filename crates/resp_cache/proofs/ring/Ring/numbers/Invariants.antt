use Rattle.std.proofs.Common.{◌≡◌, ◌++◌, ◌-◌}
use Rattle.resp_cache.specs.Rings.{walk}
use Rattle.resp_cache.proofs.ring.Ring.numbers.Given as goal

abbrev pub invariant-each : goal.invariant-each
invariant-each l =
    l.numbers.items ++ walk (l.end - l.counter) l.self-inside.older.items l.number ≡ walk (l.end - 1) l.self-inside.older.items 0
