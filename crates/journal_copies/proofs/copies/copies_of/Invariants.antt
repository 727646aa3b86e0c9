use Rattle.std.proofs.Common.{◌≡◌, take}
use Rattle.journal_copies.specs.Copying.{AreCounted}
use Rattle.journal_copies.proofs.Copied.{copied_from}
use Rattle.journal_copies.proofs.copies.copies_of.Given as goal

abbrev pub invariant-each : goal.invariant-each
invariant-each g l = record {
  copied : l.copies.journal.entries ≡ copied_from 0 (take l.number l.journal.entries) l.marks.marks.items;
  counted : AreCounted l.copies;
}
