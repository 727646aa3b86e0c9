use Rattle.std.proofs.Common.{◌≡◌, ◌++◌, ◌≤◌, drop}
use Rattle.journal_copies.specs.Carrying.{places_from}
use Rattle.journal_copies.proofs.places.Places.of.Given as goal

abbrev pub invariant-each : goal.invariant-each
invariant-each l = record {
  placed : l.places.items ++ places_from l.next l.count (drop l.mark-index l.marks)
      ≡ places_from 0 l.count l.marks;
  few : l.next ≤ l.mark-index;
}
