use Rattle.std.proofs.Common.{◌≡◌, map, take}
use Rattle.journal_copies.specs.Carrying.{place_in}
use Rattle.journal_copies.proofs.Placed.{moved_taken}
use Rattle.journal_copies.proofs.places.renumbered.Given as goal

abbrev pub invariant-each : goal.invariant-each
invariant-each l = l.pairs.items ≡ map (moved_taken (place_in l.places)) (take l.carried-index l.taken)
