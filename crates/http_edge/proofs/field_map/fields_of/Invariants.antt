use Rattle.std.proofs.Common.{◌≡◌, map, take, drop}
use Rattle.httparse.specs.Spans.{header_bytes}
use Rattle.http_edge.specs.Requests.{fields_from, values_in}
use Rattle.http_edge.proofs.field_map.fields_of.Given as goal

abbrev pub invariant-each : goal.invariant-each
invariant-each l =
    (l.fields ≡ fields_from (map (header_bytes l.unread) (take l.span-index l.spans)))
    × (l.values ≡ values_in (map (header_bytes l.unread) (drop l.span-index l.spans)))
