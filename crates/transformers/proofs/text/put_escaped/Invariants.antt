use Rattle.std.proofs.Common.{◌≡◌, ◌++◌, take, flat_map}
use Rattle.json.specs.Print.{escape_byte}
use Rattle.transformers.proofs.text.put_escaped.Given as goal

abbrev pub invariant-each : goal.invariant-each
invariant-each l = l.out.items ≡ l.initial.out.items ++ flat_map escape_byte (take l.byte-index l.text)
