use Rattle.std.proofs.Common.{◌<◌, ◌≤◌, ◌∙◌, ap, length, sym, vec_capacity, vec_len, arith}
use Rattle.std.specs.Option.{option_to_list}
use Rattle.std.specs.Prelude.{is_some}
use Rattle.resp_cache.specs.Slots.{slot_at}
use Rattle.resp_cache.specs.Tables.{has_free, has_name_room, has_slot_room, is_full, pairs_of}
use Rattle.resp_cache.proofs.Room.{lt_decided, not_up_to, room_parts, up_to}
use Rattle.resp_cache.proofs.Tabling.{all_kept, few_names, last_full, last_out}
use Rattle.resp_cache.proofs.table.make_free.Goals as goal

pub returns-then-has_empty-clause-kept : goal.returns-then-has_empty-clause-kept
returns-then-has_empty-clause-kept c =
    let t = c.args.table.now in
    let lt = (lt_decided (vec_len t.names) (vec_len t.slots)).0 (sym c.if-has_empty.ensures) in
    let few = c.requires.table.few in
    sym (all_kept t.slots.items t.ring.items t.names.items c.requires.table (omega (arith, lt, few, t.names.ok, t.slots.ok))).0

pub returns-then-has_empty-clause-gone : goal.returns-then-has_empty-clause-gone
returns-then-has_empty-clause-gone c =
    let t = c.args.table.now in
    let lt = (lt_decided (vec_len t.names) (vec_len t.slots)).0 (sym c.if-has_empty.ensures) in
    let few = c.requires.table.few in
    sym (all_kept t.slots.items t.ring.items t.names.items c.requires.table (omega (arith, lt, few, t.names.ok, t.slots.ok))).1

pub open_slot-requires-clause-room : goal.open_slot-requires-clause-room
open_slot-requires-clause-room c =
    let t = c.args.table.now in
    let fewer = few_names t.slots.items t.ring.items t.names.items c.requires.table in
    let below : vec_len t.names < 256 = omega (arith, fewer, t.names.ok, t.slots.ok, c.len.ensures, c.if-len-lt-MAX_STORED.true) in
    (room_parts (is_full t) (has_name_room t) (has_free t) (has_slot_room t) c.requires.room (not_up_to 256 (vec_len t.names) below)).1 (sym c.if-has_empty.ensures)

pub returns-then-len-lt-MAX_STORED-clause-kept : goal.returns-then-len-lt-MAX_STORED-clause-kept
returns-then-len-lt-MAX_STORED-clause-kept c =
    let t = c.args.table.now in
    let fewer = few_names t.slots.items t.ring.items t.names.items c.requires.table in
    let below : length t.names.items ≤ 255 = omega (arith, fewer, t.slots.ok, c.len.ensures, c.if-len-lt-MAX_STORED.true) in
    c.open_slot.ensures.pairs ∙ sym (all_kept t.slots.items t.ring.items t.names.items c.requires.table below).0

pub returns-then-len-lt-MAX_STORED-clause-gone : goal.returns-then-len-lt-MAX_STORED-clause-gone
returns-then-len-lt-MAX_STORED-clause-gone c =
    let t = c.args.table.now in
    let fewer = few_names t.slots.items t.ring.items t.names.items c.requires.table in
    let below : length t.names.items ≤ 255 = omega (arith, fewer, t.slots.ok, c.len.ensures, c.if-len-lt-MAX_STORED.true) in
    sym (all_kept t.slots.items t.ring.items t.names.items c.requires.table below).1

pub returns-then-len-lt-MAX_STORED-clause-free : goal.returns-then-len-lt-MAX_STORED-clause-free
returns-then-len-lt-MAX_STORED-clause-free c =
    let t = c.args.table.now in
    let fewer = few_names t.slots.items t.ring.items t.names.items c.requires.table in
    (lt_decided (vec_len c.open_slot.new.table.names) (vec_len c.open_slot.new.table.slots)).1
    (omega (arith, fewer, t.names.ok, t.slots.ok, c.open_slot.ensures.names.0, c.open_slot.ensures.slots))

pub returns-then-len-lt-MAX_STORED-clause-names : goal.returns-then-len-lt-MAX_STORED-clause-names
returns-then-len-lt-MAX_STORED-clause-names c =
    let t = c.args.table.now in
    let fewer = few_names t.slots.items t.ring.items t.names.items c.requires.table in
    let below : vec_len t.names < 256 = omega (arith, fewer, t.names.ok, t.slots.ok, c.len.ensures, c.if-len-lt-MAX_STORED.true) in
    let name = (room_parts (is_full t) (has_name_room t) (has_free t) (has_slot_room t) c.requires.room (not_up_to 256 (vec_len t.names) below)).0 in
    let lt = (lt_decided (vec_len t.names) (vec_capacity t.names)).0 name in
    (lt_decided (vec_len c.open_slot.new.table.names) (vec_capacity c.open_slot.new.table.names)).1
    (omega (arith, lt, c.open_slot.ensures.names.0, c.open_slot.ensures.names.1))

pub vacate-requires-clause-some : goal.vacate-requires-clause-some
vacate-requires-clause-some c =
    let t = c.args.table.now in
    let le = up_to (vec_len t.names) (vec_len t.slots) (sym c.if-has_empty.ensures) in
    let full : 256 ≤ length t.slots.items = omega (arith, t.slots.ok, c.len.ensures, c.if-len-lt-MAX_STORED.false) in
    let last = (last_full t.slots.items t.ring.items t.names.items c.requires.table (omega (arith, le, t.names.ok, t.slots.ok)) full).1 in
    ap is_some (ap (slot_at t.slots.items) c.last-oldest.ensures ∙ last.at)

pub returns-clause-kept : goal.returns-clause-kept
returns-clause-kept c =
    let t = c.args.table.now in
    let le = up_to (vec_len t.names) (vec_len t.slots) (sym c.if-has_empty.ensures) in
    let full : 256 ≤ length t.slots.items = omega (arith, t.slots.ok, c.len.ensures, c.if-len-lt-MAX_STORED.false) in
    let last = last_full t.slots.items t.ring.items t.names.items c.requires.table (omega (arith, le, t.names.ok, t.slots.ok)) full in
    let at_last = ap (slot_at t.slots.items) c.last-oldest.ensures ∙ last.1.at in
    c.vacate.ensures.pairs last.1.pair at_last ∙ (last_out (pairs_of t) last.1.front last.1.pair c.requires.table.apart last.0 last.1.whole).0

pub returns-clause-gone : goal.returns-clause-gone
returns-clause-gone c =
    let t = c.args.table.now in
    let le = up_to (vec_len t.names) (vec_len t.slots) (sym c.if-has_empty.ensures) in
    let full : 256 ≤ length t.slots.items = omega (arith, t.slots.ok, c.len.ensures, c.if-len-lt-MAX_STORED.false) in
    let last = last_full t.slots.items t.ring.items t.names.items c.requires.table (omega (arith, le, t.names.ok, t.slots.ok)) full in
    let at_last = ap (slot_at t.slots.items) c.last-oldest.ensures ∙ last.1.at in
    ap option_to_list (c.vacate.ensures.pair ∙ at_last) ∙ (last_out (pairs_of t) last.1.front last.1.pair c.requires.table.apart last.0 last.1.whole).1
