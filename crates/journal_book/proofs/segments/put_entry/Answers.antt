use Rattle.std.proofs.Common.{arith}
use Rattle.journal_book.proofs.Filled.{next-place, put-in, room-there}
use Rattle.journal_book.proofs.segments.put_entry.Goals as goal

pub push_reserved-requires : goal.push_reserved-requires
push_reserved-requires g c =
    let there = room-there c.args.segments.now.items c.args.len c.index_mut.result.now
    c.requires.filled (next-place c.args.segments.now c.args.len c.index_mut.result.now
    c.requires.room c.index_mut.ensures.value) in
    omega (arith, there.0, there.1, c.index_mut.result.now.ok.0)

pub returns-clause-filled : goal.returns-clause-filled
returns-clause-filled g c =
    (put-in c.args.segments.now.items c.args.len c.index_mut.result.now c.push_reserved.new.self
    c.args.entry c.requires.filled (next-place c.args.segments.now c.args.len
    c.index_mut.result.now c.requires.room c.index_mut.ensures.value)
    c.push_reserved.ensures.items c.push_reserved.ensures.capacity).0

pub returns-clause-entries : goal.returns-clause-entries
returns-clause-entries g c =
    (put-in c.args.segments.now.items c.args.len c.index_mut.result.now c.push_reserved.new.self
    c.args.entry c.requires.filled (next-place c.args.segments.now c.args.len
    c.index_mut.result.now c.requires.room c.index_mut.ensures.value)
    c.push_reserved.ensures.items c.push_reserved.ensures.capacity).1
