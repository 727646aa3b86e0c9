-- The segments that were taken off, and those of the rest, are those of the path.
use Rattle.std.proofs.Common.{◌≡◌, ◌++◌, length}
use Rattle.device_server.specs.Rows.{segments_of}
use Rattle.device_server.proofs.rows.path_of.Given as goal

abbrev pub invariant-each : goal.invariant-each
invariant-each l = l.segments ++ segments_of l.rest ≡ segments_of l.path

abbrev pub decreases-each : goal.decreases-each
decreases-each l = length l.rest
