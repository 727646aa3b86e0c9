use Rattle.std.proofs.Common.{◌≡◌, ◌+◌, length, vec_capacity, vec_len, arith, sym}
use Rattle.resp_cache.specs.Names.{IsNamed}
use Rattle.resp_cache.proofs.Room.{lt_decided}
use Rattle.resp_cache.proofs.Tabling.{filled, free_is}
use Rattle.resp_cache.proofs.table.fill.Goals as goal

pub put_name-requires-clause-order : goal.put_name-requires-clause-order
put_name-requires-clause-order c = c.requires.table.named.order

pub put_name-requires-clause-place : goal.put_name-requires-clause-place
put_name-requires-clause-place c = (lt_decided (vec_len c.args.table.now.names) (vec_capacity c.args.table.now.names)).0 c.requires.names

pub fill_slot-requires : goal.fill_slot-requires
fill_slot-requires c =
    let t = c.args.table.now in
    let lt = (lt_decided (vec_len t.names) (vec_len t.slots)).0 c.requires.free in
    let free = free_is t.slots.items t.ring.items t.names.items c.last-free.result c.last-free.ensures (omega (arith, lt, t.names.ok, t.slots.ok)) c.requires.table in
    let le = free.within in
    (free.some, omega (arith, le, t.slots.ok))

pub move_first-requires : goal.move_first-requires
move_first-requires c =
    let t = c.args.table.now in
    let lt = (lt_decided (vec_len t.names) (vec_len t.slots)).0 c.requires.free in
    (free_is t.slots.items t.ring.items t.names.items c.last-free.result c.last-free.ensures (omega (arith, lt, t.names.ok, t.slots.ok)) c.requires.table).there

pub returns-clause-pairs : goal.returns-clause-pairs
returns-clause-pairs c =
    let t = c.args.table.now in
    let lt = (lt_decided (vec_len t.names) (vec_len t.slots)).0 c.requires.free in
    let s = c.last-free.result in
    let free = free_is t.slots.items t.ring.items t.names.items s c.last-free.ensures (omega (arith, lt, t.names.ok, t.slots.ok)) c.requires.table in
    let named : IsNamed c.fill_slot.new.slots.items c.put_name.new.names.items = c.put_name.ensures.named t.slots.items c.fill_slot.new.slots.items c.args.pair (sym c.rank.ensures) free.empty c.fill_slot.ensures.puts c.requires.table.named in
    let len : length c.fill_slot.new.slots.items ≡ length t.slots.items = omega (arith, c.fill_slot.new.slots.ok, t.slots.ok, c.fill_slot.ensures.len) in
    let longer : length c.put_name.new.names.items ≡ length t.names.items + 1 = omega (arith, c.put_name.new.names.ok, t.names.ok, c.put_name.ensures.len) in
    (filled t.slots.items c.fill_slot.new.slots.items t.ring.items c.move_first.new.self.items t.names.items c.put_name.new.names.items s c.args.pair free c.fill_slot.ensures.puts len
    c.move_first.ensures.items c.move_first.ensures.order named longer c.requires.other c.requires.table).0

pub returns-clause-table : goal.returns-clause-table
returns-clause-table c =
    let t = c.args.table.now in
    let lt = (lt_decided (vec_len t.names) (vec_len t.slots)).0 c.requires.free in
    let s = c.last-free.result in
    let free = free_is t.slots.items t.ring.items t.names.items s c.last-free.ensures (omega (arith, lt, t.names.ok, t.slots.ok)) c.requires.table in
    let named : IsNamed c.fill_slot.new.slots.items c.put_name.new.names.items = c.put_name.ensures.named t.slots.items c.fill_slot.new.slots.items c.args.pair (sym c.rank.ensures) free.empty c.fill_slot.ensures.puts c.requires.table.named in
    let len : length c.fill_slot.new.slots.items ≡ length t.slots.items = omega (arith, c.fill_slot.new.slots.ok, t.slots.ok, c.fill_slot.ensures.len) in
    let longer : length c.put_name.new.names.items ≡ length t.names.items + 1 = omega (arith, c.put_name.new.names.ok, t.names.ok, c.put_name.ensures.len) in
    (filled t.slots.items c.fill_slot.new.slots.items t.ring.items c.move_first.new.self.items t.names.items c.put_name.new.names.items s c.args.pair free c.fill_slot.ensures.puts len
    c.move_first.ensures.items c.move_first.ensures.order named longer c.requires.other c.requires.table).1
