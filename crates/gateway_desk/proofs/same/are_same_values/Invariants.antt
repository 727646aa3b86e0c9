-- Those that were looked at are the same.
use Rattle.std.proofs.Common.{◌≡◌, take}
use Rattle.gateway_desk.proofs.same.are_same_values.Given as goal

abbrev pub invariant-each : goal.invariant-each
invariant-each l = take l.i l.a ≡ take l.i l.b
