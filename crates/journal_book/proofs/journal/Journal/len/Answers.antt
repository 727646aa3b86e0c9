use Rattle.std.proofs.Common.{ap, arith, length, length-append, ◌*◌, ◌≤◌}
use Rattle.journal_book.specs.Journals.{JournalValue}
use Rattle.journal_book.specs.Past.{past_in}
use Rattle.journal_book.specs.Segments.{entries_in}
use Rattle.journal_book.proofs.Filled.{length-in, places-in}
use Rattle.journal_book.proofs.journal.Journal.len.Goals as goal

pub overflow_add-result : goal.overflow_add-result
overflow_add-result g c =
    let segments = c.self.inside.segments in
    let kept = c.self.invariant in
    let places : c.self.inside.held ≤ 1024 * length segments.items =
    places-in segments.items c.self.inside.held kept.0 in
    omega (arith, places, kept.1, kept.3, segments.ok.0)

pub returns : goal.returns
returns g c =
    let inside = c.self.inside in
    let count = length-in inside.segments.items inside.held c.self.invariant.0 in
    let all = ap (λ (j : JournalValue). length j.entries) c.self.view_is in
    let longer = length-append (past_in inside.past) (entries_in inside.segments.items) in
    omega (arith, count, all, longer, c.self.invariant.2)
