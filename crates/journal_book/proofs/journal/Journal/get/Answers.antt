use Rattle.std.proofs.Common.{Some, length, slice_get, subst, ◌≡◌, ◌≤◌}
use Rattle.std.specs.Prelude.{MatchOption}
use Rattle.journal_book.specs.Journals.{IsHere, JournalValue}
use Rattle.journal_book.specs.Past.{past_in}
use Rattle.journal_book.specs.Views.{item_of}
use Rattle.journal_book.proofs.Filled.{got-behind}
use Rattle.journal_book.proofs.journal.Journal.get.Goals as goal

pub returns-in-Some-clause-entry : goal.returns-in-Some-clause-entry
returns-in-Some-clause-entry g c =
    let inside = c.self.inside in
    subst (λ (j : JournalValue). MatchOption c.entry_at.result
    (IsHere j.given j.kept c.args.number → length j.entries ≤ c.args.number)
    (λ e. slice_get j.entries c.args.number ≡ Some (item_of e.now))) c.self.view_is
    (got-behind (past_in inside.past) inside.segments.items inside.given c.args.number c.in-Some.place _
    c.entry_at.result c.self.invariant.2 c.in-Some.ensures.0 c.in-Some.ensures.1
    (rw c.deref.ensures.value at (c.entry_at.ensures inside.held
    (rw c.deref.ensures.value c.self.invariant.0))))
