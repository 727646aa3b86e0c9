use Rattle.std.proofs.Common.{◌≡◌, ◌+◌, ◌≤◌, drop}
use Rattle.journal_copies.specs.Marking.{count_some}
use Rattle.journal_copies.proofs.places.count_of.Given as goal

abbrev pub invariant-each : goal.invariant-each
invariant-each l = record {
  counted : l.count + count_some (drop l.mark-index l.marks) ≡ count_some l.marks;
  few : l.count ≤ l.mark-index;
}
