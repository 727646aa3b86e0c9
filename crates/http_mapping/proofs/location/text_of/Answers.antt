-- The value is UTF-8, so reading it as a text gives no fault.
use Rattle.std.proofs.lemmas.Str.{IsUtf8-from_is_utf8}
use Rattle.http_mapping.proofs.location.text_of.Goals as goal

pub unreachable-requires : goal.unreachable-requires
unreachable-requires c = c.in-Err.ensures.cases.0 (rw c.as_slice.ensures (IsUtf8-from_is_utf8 c.args.value.now c.requires))
