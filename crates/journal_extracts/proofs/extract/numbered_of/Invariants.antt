-- What was added are the entries with the numbers so far, one for each at most.
use Rattle.std.proofs.Common.{◌≡◌, ◌≤◌, length, map, take}
use Rattle.journal_extracts.specs.Extracts.{entries_at, place_of}
use Rattle.journal_extracts.proofs.extract.numbered_of.Given as goal

abbrev pub invariant-each : goal.invariant-each
invariant-each g l = record {
  placed : map place_of l.entries.items ≡ entries_at l.journal (take l.number-index l.numbers);
  few : length l.entries.items ≤ l.number-index;
}
