use Rattle.std.proofs.Common.{◌≡◌, take}
use Rattle.demo_origin.proofs.segments.Segments.copy.Given as goal

abbrev pub invariant-each : goal.invariant-each
invariant-each l = l.items.items ≡ take l.segment-index l.segment-items
