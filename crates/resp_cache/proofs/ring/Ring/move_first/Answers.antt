use Rattle.std.proofs.Common.{◌≡◌, ◌<◌, length, subst, sym, true, arith}
use Rattle.resp_cache.specs.Rings.{RingValue, is_in, numbers_in, without}
use Rattle.resp_cache.proofs.Linking.{first_below}
use Rattle.resp_cache.proofs.Ringing.{left_out, ring_first, ring_inside}
use Rattle.resp_cache.proofs.ring.Ring.move_first.Goals as goal

pub unlink-requires-clause-before : goal.unlink-requires-clause-before
unlink-requires-clause-before c =
    let there = subst (λ (v : RingValue). is_in c.args.number v.items ≡ true) (sym c.self.view_is) c.requires in
    let i = ring_inside c.self.inside.older.items c.self.inside.newer.items c.args.number c.self.invariant there in
    let lt = i.before in
    omega (arith, lt, c.self.inside.older.ok)

pub unlink-requires-clause-behind : goal.unlink-requires-clause-behind
unlink-requires-clause-behind c =
    let there = subst (λ (v : RingValue). is_in c.args.number v.items ≡ true) (sym c.self.view_is) c.requires in
    let i = ring_inside c.self.inside.older.items c.self.inside.newer.items c.args.number c.self.invariant there in
    let lt = i.behind in
    omega (arith, lt, c.self.inside.newer.ok)

pub unlink-requires-clause-within : goal.unlink-requires-clause-within
unlink-requires-clause-within c =
    let there = subst (λ (v : RingValue). is_in c.args.number v.items ≡ true) (sym c.self.view_is) c.requires in
    let i = ring_inside c.self.inside.older.items c.self.inside.newer.items c.args.number c.self.invariant there in
    let lo = i.older in
    let ln = i.newer in
    (omega (arith, lo, c.self.inside.older.ok), omega (arith, ln, c.self.inside.newer.ok))

pub link_first-requires-clause-first : goal.link_first-requires-clause-first
link_first-requires-clause-first c =
    let ls = c.self.inside.older.items in
    let there = subst (λ (v : RingValue). is_in c.args.number v.items ≡ true) (sym c.self.view_is) c.requires in
    let i = ring_inside ls c.self.inside.newer.items c.args.number c.self.invariant there in
    let k = c.unlink.ensures.linked (numbers_in ls) there c.self.invariant.linked in
    let lo = i.older in
    let ring : 0 < length c.unlink.new.older.items = omega (arith, lo, c.self.inside.older.ok, c.unlink.new.older.ok, c.unlink.ensures.len) in
    let lt = first_below c.unlink.new.older.items c.unlink.new.newer.items (without c.args.number (numbers_in ls)) k ring in
    omega (arith, lt, c.unlink.new.older.ok, c.unlink.new.newer.ok)

pub link_first-requires-clause-within : goal.link_first-requires-clause-within
link_first-requires-clause-within c =
    let there = subst (λ (v : RingValue). is_in c.args.number v.items ≡ true) (sym c.self.view_is) c.requires in
    let i = ring_inside c.self.inside.older.items c.self.inside.newer.items c.args.number c.self.invariant there in
    let lo = i.older in
    let ln = i.newer in
    (omega (arith, lo, c.self.inside.older.ok, c.unlink.ensures.len.0), omega (arith, ln, c.self.inside.newer.ok, c.unlink.ensures.len.1))

pub link_first-requires-clause-some : goal.link_first-requires-clause-some
link_first-requires-clause-some c =
    let there = subst (λ (v : RingValue). is_in c.args.number v.items ≡ true) (sym c.self.view_is) c.requires in
    (ring_inside c.self.inside.older.items c.self.inside.newer.items c.args.number c.self.invariant there).some

pub invariant_of-self : goal.invariant_of-self
invariant_of-self c =
    let ls = c.self.inside.older.items in
    let ns = c.self.inside.newer.items in
    let there = subst (λ (v : RingValue). is_in c.args.number v.items ≡ true) (sym c.self.view_is) c.requires in
    let k1 = c.unlink.ensures.linked (numbers_in ls) there c.self.invariant.linked in
    let k2 = c.link_first.ensures.linked (without c.args.number (numbers_in ls)) (left_out ls c.args.number) k1 in
    let len : length c.link_first.new.older.items ≡ length ls = omega (arith, c.self.inside.older.ok, c.link_first.new.older.ok, c.unlink.ensures.len.0, c.link_first.ensures.len.0) in
    (ring_first ls ns c.link_first.new.older.items c.link_first.new.newer.items c.args.number c.self.invariant there len k2).1

pub returns-clause-items : goal.returns-clause-items
returns-clause-items c =
    let ls = c.self.inside.older.items in
    let ns = c.self.inside.newer.items in
    let there = subst (λ (v : RingValue). is_in c.args.number v.items ≡ true) (sym c.self.view_is) c.requires in
    let k1 = c.unlink.ensures.linked (numbers_in ls) there c.self.invariant.linked in
    let k2 = c.link_first.ensures.linked (without c.args.number (numbers_in ls)) (left_out ls c.args.number) k1 in
    let len : length c.link_first.new.older.items ≡ length ls = omega (arith, c.self.inside.older.ok, c.link_first.new.older.ok, c.unlink.ensures.len.0, c.link_first.ensures.len.0) in
    rw (← c.self.view_is) ((ring_first ls ns c.link_first.new.older.items c.link_first.new.newer.items c.args.number c.self.invariant there len k2).0)

pub returns-clause-order : goal.returns-clause-order
returns-clause-order c =
    let ls = c.self.inside.older.items in
    let ns = c.self.inside.newer.items in
    let there = subst (λ (v : RingValue). is_in c.args.number v.items ≡ true) (sym c.self.view_is) c.requires in
    let k1 = c.unlink.ensures.linked (numbers_in ls) there c.self.invariant.linked in
    let k2 = c.link_first.ensures.linked (without c.args.number (numbers_in ls)) (left_out ls c.args.number) k1 in
    let len : length c.link_first.new.older.items ≡ length ls = omega (arith, c.self.inside.older.ok, c.link_first.new.older.ok, c.unlink.ensures.len.0, c.link_first.ensures.len.0) in
    (ring_first ls ns c.link_first.new.older.items c.link_first.new.newer.items c.args.number c.self.invariant there len k2).1.order
