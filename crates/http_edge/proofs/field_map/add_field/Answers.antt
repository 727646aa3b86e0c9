use Rattle.std.proofs.Common.{refl}
use Rattle.http_edge.proofs.Fields.{IsFieldName_from_token}
use Rattle.http_edge.proofs.field_map.add_field.Goals as goal

pub unreachable-requires : goal.unreachable-requires
unreachable-requires c =
    absurd (c.from_bytes.ensures.invalid.0 (rw (c.in-Err-Invalid.is, c.in-Err-Invalid.field-0-is) refl) (IsFieldName_from_token c.args.name.now c.requires.name c.requires.len))
