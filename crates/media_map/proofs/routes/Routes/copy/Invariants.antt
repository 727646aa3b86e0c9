-- The copies so far are the pairs so far.
use Rattle.std.proofs.Common.{◌≡◌, take}
use Rattle.media_map.proofs.routes.Routes.copy.Given as goal

abbrev pub invariant-each : goal.invariant-each
invariant-each l = l.pairs.items ≡ take l.pair-index l.pair-items
