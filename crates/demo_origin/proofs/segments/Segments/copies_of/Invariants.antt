use Rattle.std.proofs.Common.{◌≡◌, map, take}
use Rattle.demo_origin.proofs.segments.Segments.copies_of.Given as goal

abbrev pub invariant-each : goal.invariant-each
invariant-each l = l.items.items ≡ map (λ value. value.now) (take l.value-index l.values)
