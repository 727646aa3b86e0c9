use Rattle.std.proofs.Common.{◌≡◌, ◌+◌, ◌<◌, ◌^◌}
use Rattle.std.specs.Prelude.{sum_by}
use Rattle.http_header.specs.HeaderMap.{pairs}
use Rattle.ask_model.specs.Sizes.{field_size, capped}
use Rattle.ask_model.proofs.size.fields_size.Given as goal

abbrev pub invariant-each : goal.invariant-each
invariant-each l =
    (capped (l.total + sum_by field_size l.name-iterator) ≡ capped (sum_by field_size (pairs l.fields))) × (l.total < 2 ^ 64)
