use Rattle.std.proofs.Common.{◌≡◌, ◌+◌, ◌∙◌, ap, length, sym, arith}
use Rattle.std.specs.Prelude.{is_some}
use Rattle.resp_cache.specs.Names.{named_as}
use Rattle.resp_cache.proofs.Looking.{some_of}
use Rattle.resp_cache.proofs.Room.{lt_decided}
use Rattle.resp_cache.proofs.Slotted.{is_within, pairs_few}
use Rattle.resp_cache.proofs.Tabling.{emptied, is_there}
use Rattle.resp_cache.proofs.table.vacate.Goals as goal

pub empty_slot-gone-requires : goal.empty_slot-gone-requires
empty_slot-gone-requires c =
    let t = c.args.table.now in
    let p = some_of _ c.requires.some in
    let w = is_within t.slots.items c.args.slot p.0 p.1 in
    let le = w.1 in
    (w.0, omega (arith, le, t.slots.ok))

pub drop_taken-requires-clause-order : goal.drop_taken-requires-clause-order
drop_taken-requires-clause-order c = c.requires.table.named.order

pub drop_taken-requires-clause-there : goal.drop_taken-requires-clause-there
drop_taken-requires-clause-there c = c.requires.table.named.same c.args.slot ∙ ap (named_as c.args.slot) (sym c.empty_slot-gone.ensures.pair)

pub drop_taken-requires-clause-some : goal.drop_taken-requires-clause-some
drop_taken-requires-clause-some c = ap is_some c.empty_slot-gone.ensures.pair ∙ c.requires.some

pub move_last-requires : goal.move_last-requires
move_last-requires c =
    let t = c.args.table.now in
    let p = some_of _ c.requires.some in
    is_there t.slots.items t.ring.items t.names.items c.args.slot p.0 c.requires.table p.1

pub returns-clause-pairs : goal.returns-clause-pairs
returns-clause-pairs c = λ p at.
    let t = c.args.table.now in
    let len : length c.empty_slot-gone.new.slots.items ≡ length t.slots.items = omega (arith, c.empty_slot-gone.new.slots.ok, t.slots.ok, c.empty_slot-gone.ensures.len) in
    let fewer : length c.drop_taken.new.names.items + 1 ≡ length t.names.items = omega (arith, c.drop_taken.new.names.ok, t.names.ok, c.drop_taken.ensures.len) in
    (emptied t.slots.items c.empty_slot-gone.new.slots.items t.ring.items c.move_last.new.self.items t.names.items c.drop_taken.new.names.items c.args.slot p at
    c.empty_slot-gone.ensures.puts len c.move_last.ensures.items c.move_last.ensures.order c.drop_taken.ensures.items fewer c.requires.table).0

pub returns-clause-table : goal.returns-clause-table
returns-clause-table c =
    let t = c.args.table.now in
    let p = some_of _ c.requires.some in
    let len : length c.empty_slot-gone.new.slots.items ≡ length t.slots.items = omega (arith, c.empty_slot-gone.new.slots.ok, t.slots.ok, c.empty_slot-gone.ensures.len) in
    let fewer : length c.drop_taken.new.names.items + 1 ≡ length t.names.items = omega (arith, c.drop_taken.new.names.ok, t.names.ok, c.drop_taken.ensures.len) in
    (emptied t.slots.items c.empty_slot-gone.new.slots.items t.ring.items c.move_last.new.self.items t.names.items c.drop_taken.new.names.items c.args.slot p.0 p.1
    c.empty_slot-gone.ensures.puts len c.move_last.ensures.items c.move_last.ensures.order c.drop_taken.ensures.items fewer c.requires.table).1

pub returns-clause-free : goal.returns-clause-free
returns-clause-free c =
    let t = c.args.table.now in
    let counted = c.requires.table.counted in
    let sized = c.requires.table.sized in
    let few = pairs_few t.slots.items t.ring.items in
    (lt_decided c.drop_taken.new.names.len c.empty_slot-gone.new.slots.len).1
    (omega (arith, counted, sized, few, t.slots.ok, t.names.ok, c.drop_taken.ensures.len, c.empty_slot-gone.ensures.len))

pub returns-clause-names : goal.returns-clause-names
returns-clause-names c =
    (lt_decided c.drop_taken.new.names.len c.drop_taken.new.names.cap).1
    (omega (arith, c.args.table.now.names.ok, c.drop_taken.ensures.len, c.drop_taken.ensures.capacity))
