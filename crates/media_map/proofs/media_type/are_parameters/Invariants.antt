-- The pieces so far are parameters.
use Rattle.std.proofs.Common.{◌≡◌, length, true}
use Rattle.std.specs.List.{list_all}
use Rattle.media_map.specs.Texts.{behind}
use Rattle.media_map.specs.MediaTypes.{is_parameter}
use Rattle.media_map.proofs.media_type.are_parameters.Given as goal

abbrev pub invariant-each : goal.invariant-each
invariant-each l = list_all is_parameter (behind true 59 l.text) ≡ list_all is_parameter (behind true 59 l.rest)

abbrev pub decreases-each : goal.decreases-each
decreases-each l = length l.rest
