use Rattle.std.proofs.Common.{◌≡◌, ◌++◌, take, flat_map}
use Rattle.journal_picture.specs.Escaping.{escape}
use Rattle.journal_picture.proofs.page.push_escaped.Given as goal

abbrev pub invariant-each : goal.invariant-each
invariant-each l = l.bytes.items ≡ l.initial.bytes.items ++ flat_map escape (take l.byte-index l.text)
