use Rattle.std.proofs.Common.{◌≡◌, ◌++◌, length, map}
use Rattle.std.specs.Vec.Iter.{into_iter_items, into_iter_len}
use Rattle.demo_origin.specs.Values.{seen}
use Rattle.demo_origin.specs.Origins.{Sound, fresh, held_of}
use Rattle.demo_origin.proofs.origin.Origin.new.Given as goal

abbrev pub invariant-each : goal.invariant-each
invariant-each g l =
    (l.yielded ++ into_iter_items l.resource-iterator ≡ l.fn.resources.items)
    × Sound g.H.Behaviour.relation l.origin
    × (seen l.origin.state ≡ fresh l.fn.block (map held_of l.yielded))
    × (into_iter_len l.resource-iterator ≡ length (into_iter_items l.resource-iterator))
