-- The texts so far are the values so far.
use Rattle.std.proofs.Common.{◌≡◌, take}
use Rattle.http_mapping.proofs.location.texts_of.Given as goal

abbrev pub invariant-each : goal.invariant-each
invariant-each l = l.texts ≡ take l.value-index l.values
