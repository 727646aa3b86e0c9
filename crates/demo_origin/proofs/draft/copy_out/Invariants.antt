use Rattle.std.proofs.Common.{◌≡◌, take}
use Rattle.demo_origin.proofs.draft.copy_out.Given as goal

abbrev pub invariant-each : goal.invariant-each
invariant-each l = l.copy.items ≡ take l.i l.out.items
