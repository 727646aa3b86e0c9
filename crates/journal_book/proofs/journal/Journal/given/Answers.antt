use Rattle.std.proofs.Common.{ap, arith, length, length-append}
use Rattle.journal_book.specs.Journals.{JournalValue}
use Rattle.journal_book.specs.Past.{past_in}
use Rattle.journal_book.specs.Segments.{entries_in}
use Rattle.journal_book.proofs.journal.Journal.given.Goals as goal

pub returns-clause-within : goal.returns-clause-within
returns-clause-within g c =
    let inside = c.self.inside in
    let all = ap (λ (j : JournalValue). length j.entries) c.self.view_is in
    let longer = length-append (past_in inside.past) (entries_in inside.segments.items) in
    omega (arith, all, longer, c.self.invariant.2)
