use Rattle.std.proofs.Common.{◌≡◌, length}
use Rattle.httparse.specs.Grammar.{skip_ows}
use Rattle.http_edge.proofs.lists.trimmed_front.Given as goal

abbrev pub invariant-each : goal.invariant-each
invariant-each l = skip_ows l.rest ≡ skip_ows l.bytes

abbrev pub decreases-each : goal.decreases-each
decreases-each l = length l.rest
