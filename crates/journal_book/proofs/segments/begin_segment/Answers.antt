use Rattle.journal_book.proofs.Filled.{begun-in, same-in}
use Rattle.journal_book.proofs.segments.begin_segment.Goals as goal

pub returns-clause-filled : goal.returns-clause-filled
returns-clause-filled g c = λ n f.
    rw (c.push_reserved.ensures.items, c.in_ok-reserve.ensures.items)
    (begun-in c.args.segments.now.items n c.in_ok-segment.segment f c.in_ok-segment.ensures.items
    c.in_ok-segment.ensures.capacity)

pub returns-clause-entries : goal.returns-clause-entries
returns-clause-entries g c =
    rw (c.push_reserved.ensures.items, c.in_ok-reserve.ensures.items)
    (same-in c.args.segments.now.items c.in_ok-segment.segment c.in_ok-segment.ensures.items)
