use Rattle.std.proofs.Common.{[], take}
use Rattle.exchange_model.specs.Rotating.{seen}
use Rattle.journal_copies.specs.Knowing.{AreBefore, Knows}
use Rattle.journal_copies.specs.Marking.{AreMarks}
use Rattle.journal_copies.proofs.remembering.remembered.Given as goal

abbrev pub invariant-each : goal.invariant-each
invariant-each g l = record {
  knows : Knows l.seen.moments (seen (take l.number l.journal.entries));
  before : AreBefore l.number (seen (take l.number l.journal.entries));
  marked : AreMarks l.moment (take l.number l.journal.entries) [] l.marks;
}
