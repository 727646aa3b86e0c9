use Rattle.resp_cache.proofs.Looking.{some_of}
use Rattle.resp_cache.proofs.Tabling.{is_there, used}
use Rattle.resp_cache.proofs.table.use_slot.Goals as goal

pub move_first-requires : goal.move_first-requires
move_first-requires c =
    let t = c.args.table.now in
    let p = some_of _ c.requires.some in
    is_there t.slots.items t.ring.items t.names.items c.args.slot p.0 c.requires.table p.1

pub returns-clause-pairs : goal.returns-clause-pairs
returns-clause-pairs c = λ p at.
    let t = c.args.table.now in
    (used t.slots.items t.ring.items c.move_first.new.self.items t.names.items c.args.slot p at c.move_first.ensures.items c.move_first.ensures.order c.requires.table).0

pub returns-clause-table : goal.returns-clause-table
returns-clause-table c =
    let t = c.args.table.now in
    let p = some_of _ c.requires.some in
    (used t.slots.items t.ring.items c.move_first.new.self.items t.names.items c.args.slot p.0 p.1 c.move_first.ensures.items c.move_first.ensures.order c.requires.table).1
