-- The last of its replies stands in memory.
use Rattle.std.proofs.Common.{true, sym, subst}
use Rattle.journal_book.specs.Journals.{IsHere}
use Rattle.journal_book.specs.Views.{grounds_of}
use Rattle.exchange_core.specs.Reading.{IsCountedHere}
use Rattle.exchange_core.proofs.Listed.{last-here}
use Rattle.exchange_core.proofs.ending.last_moment.Goals as goal

pub moment_in-requires : goal.moment_in-requires
moment_in-requires g c =
    let journal = c.args.journal.now in
    last-here (IsHere journal.given journal.kept) c.in-Live.numbers c.in-Some.last.now
    (sym (rw (c.as_slice.ensures) at c.in-Some.ensures.value))
    (subst (λ gs. IsCountedHere journal.given journal.kept true (grounds_of gs)) c.in-Live.is c.requires)
