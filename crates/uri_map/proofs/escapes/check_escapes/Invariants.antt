use Rattle.std.proofs.Common.{◌≡◌, length}
use Rattle.uri_map.specs.Escapes.{well_escaped}
use Rattle.uri_map.proofs.escapes.check_escapes.Given as goal

abbrev pub invariant-each : goal.invariant-each
invariant-each l = well_escaped l.text ≡ well_escaped l.rest

abbrev pub decreases-each : goal.decreases-each
decreases-each l = length l.rest
