use Rattle.std.proofs.Common.{◌≡◌, ◌++◌, take}
use Rattle.std.specs.List.{flat_map}
use Rattle.http_edge.specs.Answers.{field_line}
use Rattle.http_edge.proofs.answer.add_fields.Given as goal

abbrev pub invariant-each : goal.invariant-each
invariant-each l = l.out.items ≡ l.initial.out.items ++ flat_map field_line (take l.field-index l.fields)
