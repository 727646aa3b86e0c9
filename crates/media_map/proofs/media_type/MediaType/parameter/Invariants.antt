-- No piece so far has the name.
use Rattle.std.proofs.Common.{◌≡◌, length, true}
use Rattle.media_map.specs.Texts.{behind}
use Rattle.media_map.specs.MediaTypes.{value_in}
use Rattle.media_map.proofs.media_type.MediaType.parameter.Given as goal

abbrev pub invariant-each : goal.invariant-each
invariant-each l = value_in l.name (behind true 59 l.self.parameters.now) ≡ value_in l.name (behind true 59 l.rest)

abbrev pub decreases-each : goal.decreases-each
decreases-each l = length l.rest
