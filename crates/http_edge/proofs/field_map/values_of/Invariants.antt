use Rattle.std.proofs.Common.{◌≡◌, map, take}
use Rattle.httparse.specs.Spans.{header_bytes}
use Rattle.http_edge.specs.Requests.{values_in}
use Rattle.http_edge.proofs.field_map.values_of.Given as goal

abbrev pub invariant-each : goal.invariant-each
invariant-each l = l.values.items ≡ values_in (map (header_bytes l.unread) (take l.span-index l.spans))
