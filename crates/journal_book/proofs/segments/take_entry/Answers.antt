use Rattle.std.proofs.Common.{arith, subst, ◌+◌, ◌-◌}
use Rattle.journal_book.specs.Segments.{AreFilled}
use Rattle.journal_book.proofs.Filled.{last-below, next-place, place-below, taken-from}
use Rattle.journal_book.proofs.segments.take_entry.Goals as goal

pub index_mut-requires : goal.index_mut-requires
index_mut-requires g c =
    place-below c.args.segments.now (c.args.len - 1)
    (last-below c.args.segments.now c.args.len c.requires.filled c.requires.some)

pub returns-clause-filled : goal.returns-clause-filled
returns-clause-filled g c =
    let items = c.args.segments.now.items in
    let filled : AreFilled items (c.args.len - 1 + 1) =
    subst (AreFilled items) (omega (arith, c.requires.some)) c.requires.filled in
    (taken-from items (c.args.len - 1) c.index_mut.result.now c.truncate.new.self filled
    (next-place c.args.segments.now (c.args.len - 1) c.index_mut.result.now
    (last-below c.args.segments.now c.args.len c.requires.filled c.requires.some)
    c.index_mut.ensures.value) c.truncate.ensures.items c.truncate.ensures.capacity).0

pub returns-clause-entries : goal.returns-clause-entries
returns-clause-entries g c =
    let items = c.args.segments.now.items in
    let filled : AreFilled items (c.args.len - 1 + 1) =
    subst (AreFilled items) (omega (arith, c.requires.some)) c.requires.filled in
    (taken-from items (c.args.len - 1) c.index_mut.result.now c.truncate.new.self filled
    (next-place c.args.segments.now (c.args.len - 1) c.index_mut.result.now
    (last-below c.args.segments.now c.args.len c.requires.filled c.requires.some)
    c.index_mut.ensures.value) c.truncate.ensures.items c.truncate.ensures.capacity).1
