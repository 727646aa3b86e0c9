use Rattle.std.proofs.Common.{take}
use Rattle.uri_map.specs.Scanning.{IsPlain}
use Rattle.uri_map.proofs.plain.is_plain.Given as goal

abbrev pub invariant-each : goal.invariant-each
invariant-each l = IsPlain (take l.b-index l.text)
