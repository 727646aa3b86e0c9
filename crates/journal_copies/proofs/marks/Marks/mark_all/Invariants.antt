use Rattle.std.proofs.Common.{ℕ, List, ◌++◌, take}
use Rattle.journal_copies.specs.Marking.{AreMarks}
use Rattle.journal_copies.proofs.marks.Marks.mark_all.Given as goal

abbrev pub invariant-each : goal.invariant-each
invariant-each g l =
    (t : ℕ) (gs : List ℕ) → AreMarks t l.journal.entries gs l.initial.self
    → AreMarks t l.journal.entries (gs ++ take l.number-index l.numbers) l.self
