use Rattle.std.proofs.Common.{◌≡◌, ◌≤◌, ◌-◌}
use Rattle.journal_book.proofs.journal.Journal.make_room.Given as goal

abbrev pub invariant-each : goal.invariant-each
invariant-each g l = record {
  same : l.self.entries ≡ l.initial.self.entries;
  given : l.self.given ≡ l.initial.self.given;
  kept : l.self.kept ≡ l.initial.self.kept;
  room : l.initial.self.room ≤ l.self.room;
}

abbrev pub decreases-each : goal.decreases-each
decreases-each g l = l.n - l.self.room
