use Rattle.std.proofs.Common.{◌≡◌, ◌<◌, ◌+◌, ◌-◌, ◌++◌, ◌∷◌, [], ◌∙◌, ℕ, ap, length, subst, sym, arith}
use Rattle.resp_cache.specs.Rings.{RingValue, numbers_in}
use Rattle.resp_cache.proofs.Linking.{newest_below}
use Rattle.resp_cache.proofs.Ringing.{length_numbers, linked_more, next_out, ring_next}
use Rattle.resp_cache.proofs.ring.Ring.push_last.Goals as goal

pub overflow_cast-number : goal.overflow_cast-number
overflow_cast-number c =
    let few : length (numbers_in c.self.inside.older.items) < 65535 = subst (λ (v : RingValue). length v.items < 65535) (sym c.self.view_is) c.requires.few in
    omega (arith, few, length_numbers c.self.inside.older.items, c.self.inside.older.ok, c.begin.ensures.len.0, c.len-number.ensures)

pub link_last-requires-clause-last : goal.link_last-requires-clause-last
link_last-requires-clause-last c =
    let ls = c.self.inside.older.items in
    let k1 = c.begin.ensures.linked (numbers_in ls) c.self.invariant.linked in
    let k2 = linked_more c.begin.new.older.items c.begin.new.newer.items c.push_reserved.new.self.items c.push_reserved-2.new.self.items (numbers_in ls) c.push_reserved.ensures.items c.push_reserved-2.ensures.items k1 in
    let ring : 0 < length c.push_reserved.new.self.items = omega (arith, c.push_reserved.new.self.ok, c.push_reserved.ensures.len) in
    let lt = newest_below c.push_reserved.new.self.items c.push_reserved-2.new.self.items (numbers_in ls) k2 ring in
    omega (arith, lt, c.push_reserved.new.self.ok)

pub invariant_of-self : goal.invariant_of-self
invariant_of-self c =
    let ls = c.self.inside.older.items in
    let ns = c.self.inside.newer.items in
    let k1 = c.begin.ensures.linked (numbers_in ls) c.self.invariant.linked in
    let k2 = linked_more c.begin.new.older.items c.begin.new.newer.items c.push_reserved.new.self.items c.push_reserved-2.new.self.items (numbers_in ls) c.push_reserved.ensures.items c.push_reserved-2.ensures.items k1 in
    let n : ℕ = c.len-number.result in
    let next : n ≡ length (numbers_in ls) + 1 = omega (arith, length_numbers ls, c.self.inside.older.ok, c.begin.ensures.len.0, c.len-number.ensures) in
    let k3 = c.link_last.ensures.linked (numbers_in ls) (next_out ls ns n c.self.invariant next) k2 in
    let len : length c.link_last.new.older.items ≡ length ls - 1 + 2 = omega (arith, c.self.inside.older.ok, c.begin.ensures.len.0, c.push_reserved.ensures.len, c.link_last.ensures.len.0, c.link_last.new.older.ok) in
    (ring_next ls ns c.link_last.new.older.items c.link_last.new.newer.items n c.self.invariant next len k3).1

pub returns-clause-items : goal.returns-clause-items
returns-clause-items c =
    let ls = c.self.inside.older.items in
    let ns = c.self.inside.newer.items in
    let k1 = c.begin.ensures.linked (numbers_in ls) c.self.invariant.linked in
    let k2 = linked_more c.begin.new.older.items c.begin.new.newer.items c.push_reserved.new.self.items c.push_reserved-2.new.self.items (numbers_in ls) c.push_reserved.ensures.items c.push_reserved-2.ensures.items k1 in
    let n : ℕ = c.len-number.result in
    let next : n ≡ length (numbers_in ls) + 1 = omega (arith, length_numbers ls, c.self.inside.older.ok, c.begin.ensures.len.0, c.len-number.ensures) in
    let k3 = c.link_last.ensures.linked (numbers_in ls) (next_out ls ns n c.self.invariant next) k2 in
    let len : length c.link_last.new.older.items ≡ length ls - 1 + 2 = omega (arith, c.self.inside.older.ok, c.begin.ensures.len.0, c.push_reserved.ensures.len, c.link_last.ensures.len.0, c.link_last.new.older.ok) in
    let made = (ring_next ls ns c.link_last.new.older.items c.link_last.new.newer.items n c.self.invariant next len k3).0 in
    rw (← c.self.view_is) (made ∙ ap (λ (m : ℕ). numbers_in ls ++ m ∷ []) next)

pub returns-clause-order : goal.returns-clause-order
returns-clause-order c =
    let ls = c.self.inside.older.items in
    let ns = c.self.inside.newer.items in
    let k1 = c.begin.ensures.linked (numbers_in ls) c.self.invariant.linked in
    let k2 = linked_more c.begin.new.older.items c.begin.new.newer.items c.push_reserved.new.self.items c.push_reserved-2.new.self.items (numbers_in ls) c.push_reserved.ensures.items c.push_reserved-2.ensures.items k1 in
    let n : ℕ = c.len-number.result in
    let next : n ≡ length (numbers_in ls) + 1 = omega (arith, length_numbers ls, c.self.inside.older.ok, c.begin.ensures.len.0, c.len-number.ensures) in
    let k3 = c.link_last.ensures.linked (numbers_in ls) (next_out ls ns n c.self.invariant next) k2 in
    let len : length c.link_last.new.older.items ≡ length ls - 1 + 2 = omega (arith, c.self.inside.older.ok, c.begin.ensures.len.0, c.push_reserved.ensures.len, c.link_last.ensures.len.0, c.link_last.new.older.ok) in
    (ring_next ls ns c.link_last.new.older.items c.link_last.new.newer.items n c.self.invariant next len k3).1.order
