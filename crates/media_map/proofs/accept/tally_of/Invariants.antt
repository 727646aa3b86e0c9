-- The pieces so far and those of the rest are all.
use Rattle.std.proofs.Common.{◌≡◌, length, false}
use Rattle.media_map.specs.Texts.{pieces, behind}
use Rattle.media_map.specs.Tallying.{seen_from, seen_by, nothing}
use Rattle.media_map.proofs.accept.tally_of.Given as goal

abbrev pub invariant-each : goal.invariant-each
invariant-each l = seen_from l.policy l.routes nothing (pieces false 44 l.value) ≡ seen_from l.policy l.routes (seen_by l.tally) (behind false 44 l.rest)

abbrev pub decreases-each : goal.decreases-each
decreases-each l = length l.rest
