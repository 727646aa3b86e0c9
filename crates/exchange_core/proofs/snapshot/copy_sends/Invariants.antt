use Rattle.std.proofs.Common.{◌≡◌, map, take}
use Rattle.exchange_core.specs.Values.{outgoing_of}
use Rattle.exchange_core.proofs.snapshot.copy_sends.Given as goal

abbrev pub invariant-each : goal.invariant-each
invariant-each l = map outgoing_of l.copy.items ≡ map outgoing_of (take l.i l.sends.items)
