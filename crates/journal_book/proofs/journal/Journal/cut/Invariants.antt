use Rattle.std.proofs.Common.{◌≡◌, ◌≤◌, ◌+◌, length, take}
use Rattle.journal_book.proofs.journal.Journal.cut.Given as goal

abbrev pub invariant-each : goal.invariant-each
invariant-each g l = record {
  same : take l.n l.self.entries ≡ take l.n l.initial.self.entries;
  given : l.self.given ≡ l.initial.self.given;
  kept : l.self.kept ≡ l.initial.self.kept;
  above : l.self.given ≤ l.n;
  long : l.n ≤ length l.initial.self.entries → l.n ≤ length l.self.entries;
  whole : l.self.room + length l.self.entries ≡ l.initial.self.room + length l.initial.self.entries;
  room : l.initial.self.room ≤ l.self.room;
}

abbrev pub decreases-each : goal.decreases-each
decreases-each g l = length l.self.entries
