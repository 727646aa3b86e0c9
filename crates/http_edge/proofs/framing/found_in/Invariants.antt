use Rattle.std.proofs.Common.{map, take}
use Rattle.httparse.specs.Spans.{header_bytes}
use Rattle.http_edge.specs.Framing.{IsFound}
use Rattle.http_edge.proofs.framing.found_in.Given as goal

abbrev pub invariant-each : goal.invariant-each
invariant-each l = IsFound l.found (map (header_bytes l.buf) (take l.span-index l.spans))
