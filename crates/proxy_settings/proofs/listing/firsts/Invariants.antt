use Rattle.std.proofs.Common.{◌≡◌, ◌++◌, length}
use Rattle.std.specs.Vec.Iter.{into_iter_items, into_iter_len}
use Rattle.proxy_settings.proofs.FirstOnes.{SoFar}
use Rattle.proxy_settings.proofs.listing.firsts.Given as goal

abbrev pub invariant-each : goal.invariant-each
invariant-each g l =
    (l.yielded ++ into_iter_items l.item-iterator ≡ into_iter_items l.initial.item-iterator)
    × SoFar g.T.Named.name l.yielded l.seen l.kept.items
    × (into_iter_len l.item-iterator ≡ length (into_iter_items l.item-iterator))
