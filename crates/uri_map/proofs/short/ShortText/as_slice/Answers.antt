use Rattle.std.proofs.lemmas.Str.{IsUtf8-from_is_utf8}
use Rattle.uri_map.proofs.short.ShortText.as_slice.Goals as goal

pub returns-clause-utf8 : goal.returns-clause-utf8
returns-clause-utf8 c = IsUtf8-from_is_utf8 _ (rw (← c.self.view_is) c.self.invariant.2)
