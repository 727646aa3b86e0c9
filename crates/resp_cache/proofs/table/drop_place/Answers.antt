use Rattle.std.proofs.Common.{◌∙◌, ap, length, filter, refl, sym, arith}
use Rattle.cache_key.specs.Keys.{CacheKey}
use Rattle.resp_cache.specs.Stores.{is_elsewhere}
use Rattle.resp_cache.specs.Tables.{has_free, has_name_room, has_slot_room, is_full, pairs_of}
use Rattle.resp_cache.proofs.Looking.{held_near, none_near, one_by_one}
use Rattle.resp_cache.proofs.Room.{by_empty}
use Rattle.resp_cache.proofs.Tabling.{one_fewer}
use Rattle.resp_cache.proofs.table.drop_place.Goals as goal

pub each-smaller-in-Some : goal.each-smaller-in-Some
each-smaller-in-Some c =
    let t = c.each.table in
    let some = rw c.deref.ensures.value at c.in-Some.ensures.some in
    let h = held_near c.of-changed.result _ some in
    let less = one_fewer t.slots.items t.ring.items t.names.items c.in-Some.slot h.0 c.each.invariant.0 h.1 in
    omega (arith, less, ap length (c.vacate.ensures.pairs h.0 h.1))

pub each-preserved-in-Some : goal.each-preserved-in-Some
each-preserved-in-Some c =
    let t = c.each.table in
    let new = c.vacate.new.table in
    let place = c.of-changed.result.place in
    let some = rw c.deref.ensures.value at c.in-Some.ensures.some in
    let h = held_near c.of-changed.result _ some in (
      c.vacate.ensures.table,
      ap (filter (is_elsewhere place)) (c.vacate.ensures.pairs h.0 h.1) ∙ (one_by_one h.0.key place (pairs_of t) h.2 ∙ c.each.invariant.1),
      λ room. by_empty (is_full new) (has_name_room new) (has_free new) (has_slot_room new) c.vacate.ensures.names c.vacate.ensures.free,
    )

pub returns-clause-pairs : goal.returns-clause-pairs
returns-clause-pairs c =
    let t = c.each.table in
    let none = rw c.deref.ensures.value at (c.in_default.ensures.none refl) in
    sym (none_near c.of-changed.result t.slots.items t.ring.items none)
    ∙ (c.each.invariant.1 ∙ ap (λ (key : CacheKey). filter (is_elsewhere key.place) (pairs_of c.args.table.now)) c.of-changed.ensures)
