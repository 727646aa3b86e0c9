use Rattle.std.proofs.Common.{◌+◌, ◌&&◌, ◌≤◌, nat_le, sym, ◌∙◌, arith}
use Rattle.std.proofs.lemmas.Bool.{and_parts, leb-true}
use borrow.Author.Tests.{ltb-true}
use Rattle.message_layer.proofs.Ordering.{latest-push, in-order-push}
use Rattle.message_layer.proofs.remembered.Remembered.push_reserved.Goals as goal

pub chain_if-requires-clause-chained : goal.chain_if-requires-clause-chained
chain_if-requires-clause-chained c = λ risen.
    let on = and_parts c.self.inside.orderly (nat_le c.self.inside.newest c.args.h.moment && c.has_number-numbered.result) (sym c.goes_on-self-inside.ensures ∙ risen) in
    (c.self.invariant on.0).0.chained

pub chain_if-requires-clause-few : goal.chain_if-requires-clause-few
chain_if-requires-clause-few c = λ risen.
    let on = and_parts c.self.inside.orderly (nat_le c.self.inside.newest c.args.h.moment && c.has_number-numbered.result) (sym c.goes_on-self-inside.ensures ∙ risen) in
    let next = and_parts (nat_le c.self.inside.newest c.args.h.moment) c.has_number-numbered.result on.1 in
    omega (arith, ltb-true (c.self.inside.chains.forgotten + c.len.result + 1) 4294967296 (sym c.has_number-numbered.ensures ∙ next.1), c.len.ensures.all)

pub invariant_of-self : goal.invariant_of-self
invariant_of-self c = λ risen.
    let on = and_parts c.self.inside.orderly (nat_le c.self.inside.newest c.args.h.moment && c.has_number-numbered.result) (sym c.goes_on-self-inside.ensures ∙ risen) in
    let next = and_parts (nat_le c.self.inside.newest c.args.h.moment) c.has_number-numbered.result on.1 in
    let later : c.self.inside.newest ≤ c.args.h.moment = leb-true c.self.inside.newest c.args.h.moment next.0 in
    let was = (c.self.invariant on.0).0 in (
      record {
        in_order = rw c.push_reserved.ensures.items (in-order-push c.self.inside.newest c.self.inside.messages.items c.args.h later was.in_order was.latest);
        latest = rw c.push_reserved.ensures.items (latest-push c.self.inside.newest c.self.inside.messages.items c.args.h later was.latest);
        chained = rw c.push_reserved.ensures.items (c.chain_if.ensures risen);
      },
      c.push_reserved.ensures.whole ((c.self.invariant on.0).1),
    )
