use Rattle.std.proofs.Common.{◌<◌, length, vec_capacity, vec_len, nat_lt, arith}
use Rattle.std.proofs.lemmas.Bool.{and_parts}
use Rattle.resp_cache.proofs.Room.{lt_decided}
use Rattle.resp_cache.proofs.Tabling.{opened}
use Rattle.resp_cache.proofs.table.open_slot.Goals as goal

pub push_reserved-requires : goal.push_reserved-requires
push_reserved-requires c =
    let t = c.args.table.now in
    (lt_decided (vec_len t.slots) (vec_capacity t.slots)).0 (and_parts (nat_lt (vec_len t.slots) (vec_capacity t.slots)) t.ring.room c.requires.room).0

pub push_last-requires-clause-room : goal.push_last-requires-clause-room
push_last-requires-clause-room c =
    let t = c.args.table.now in
    (and_parts (nat_lt (vec_len t.slots) (vec_capacity t.slots)) t.ring.room c.requires.room).1

pub push_last-requires-clause-few : goal.push_last-requires-clause-few
push_last-requires-clause-few c =
    let sized = c.requires.table.sized in
    let few = c.requires.table.few in
    omega (arith, sized, few)

pub returns-clause-pairs : goal.returns-clause-pairs
returns-clause-pairs c =
    let t = c.args.table.now in
    let few : length t.slots.items < 256 = omega (arith, t.slots.ok, c.requires.few) in
    (opened t.slots.items c.push_reserved.new.self.items t.ring.items c.push_last.new.self.items t.names.items c.push_reserved.ensures.items c.push_last.ensures.items c.push_last.ensures.order few c.requires.table).0

pub returns-clause-table : goal.returns-clause-table
returns-clause-table c =
    let t = c.args.table.now in
    let few : length t.slots.items < 256 = omega (arith, t.slots.ok, c.requires.few) in
    (opened t.slots.items c.push_reserved.new.self.items t.ring.items c.push_last.new.self.items t.names.items c.push_reserved.ensures.items c.push_last.ensures.items c.push_last.ensures.order few c.requires.table).1
