use Rattle.std.proofs.Common.{◌≡◌, map, take}
use Rattle.journal_copies.specs.Carrying.{place_in}
use Rattle.journal_copies.proofs.places.Places.all.Given as goal

abbrev pub invariant-each : goal.invariant-each
invariant-each l = l.places.items ≡ map (place_in l.self) (take l.number-index l.numbers)
