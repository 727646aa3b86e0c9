use Rattle.std.proofs.Common.{◌≡◌, [], ◌≤◌, ◌+◌, length, take, drop}
use Rattle.journal_book.proofs.journal.Journal.copy.Given as goal

abbrev pub invariant-each : goal.invariant-each
invariant-each g l = record {
  same : l.copy.entries ≡ drop l.self.given (take l.number l.self.entries);
  none : l.copy.given ≡ 0;
  no_more : l.copy.kept ≡ [];
  behind : l.self.given ≤ l.number;
  room : length l.self.entries ≤ l.copy.room + l.number;
}
