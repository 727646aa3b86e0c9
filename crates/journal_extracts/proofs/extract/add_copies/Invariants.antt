-- What was added are copies of the entries so far.
use Rattle.std.proofs.Common.{◌≡◌, ◌+◌, ◌-◌, drop, length, map, take}
use Rattle.journal_book.specs.Views.{item_of}
use Rattle.journal_extracts.proofs.extract.add_copies.Given as goal

abbrev pub invariant-each : goal.invariant-each
invariant-each g l = record {
  copied : map item_of l.entries.items ≡ take (l.number - l.from) (drop l.from l.journal.entries);
  count : l.from + length l.entries.items ≡ l.number;
}
