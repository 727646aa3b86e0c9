use Rattle.std.proofs.Common.{◌≡◌, take}
use Rattle.cache_key.specs.Digests.{fed_on}
use Rattle.cache_key.proofs.digest.write_texts.Given as goal

abbrev pub invariant-each : goal.invariant-each
invariant-each l = l.hasher ≡ fed_on l.initial.hasher (take l.text-index l.text-items)
