use Rattle.std.proofs.Common.{◌≡◌, ◌≤◌, drop}
use Rattle.http_edge.specs.Framing.{sized_at}
use Rattle.http_edge.proofs.Framings.{length_from}
use Rattle.http_edge.proofs.framing.length_at.Given as goal

abbrev pub invariant-each : goal.invariant-each
invariant-each l = (length_from l.n (drop l.digit-index l.digits) ≡ sized_at l.digits) × (l.n ≤ 65537)
