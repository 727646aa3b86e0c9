use Rattle.std.proofs.Common.{◌≡◌, take}
use Rattle.uri_map.proofs.text.Texts.copy.Given as goal

abbrev pub invariant-each : goal.invariant-each
invariant-each l = l.items.items ≡ take l.text-index l.text-items
