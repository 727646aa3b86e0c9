use Rattle.std.proofs.Common.{List, map, ap, sym, ◌++◌, ◌∙◌}
use Rattle.rtrb.specs.Ring.{received}
use Rattle.journal_book.specs.Entries.{Written}
use Rattle.journal_book.specs.Past.{past_in}
use Rattle.journal_book.specs.Segments.{entries_in}
use Rattle.journal_book.specs.Views.{item_of}
use Rattle.journal_book.proofs.Filled.{one-more-in}
use Rattle.journal_book.proofs.past.pass_on.Goals as goal

pub returns-clause-entries : goal.returns-clause-entries
returns-clause-entries g c =
    ap entries_in c.pass-given.ensures.passed ∙ one-more-in (received c.in-Some.kept.consumer) c.args.segment
    ∙ ap (λ (ws : List Written). ws ++ map item_of c.args.segment.items)
    (ap past_in (sym c.in-Some.is ∙ c.take.ensures.value))
