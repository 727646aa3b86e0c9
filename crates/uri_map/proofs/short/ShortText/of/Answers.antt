use Rattle.std.proofs.Common.{refl}
use Rattle.uri_map.proofs.Shorts.{short_is}
use Rattle.uri_map.proofs.short.ShortText.of.Goals as goal

pub invariant_of-result : goal.invariant_of-result
invariant_of-result c =
    short_is c.as_bytes-text.result.now c.copy_from_slice.new.self _ c.copy_from_slice.ensures.after (rw c.as_bytes-text.ensures.value c.requires) refl c.as_bytes-text.ensures.utf8
