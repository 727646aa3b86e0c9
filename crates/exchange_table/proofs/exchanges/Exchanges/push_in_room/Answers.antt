use Rattle.std.proofs.Common.{ℕ, List, [], ◌∷◌, ◌++◌, subst}
use Rattle.exchange_table.specs.declared.marks.Mark.{Mark}
use Rattle.exchange_table.specs.Groups.{AreGrouped}
use Rattle.exchange_table.specs.Marks.{digest_in}
use Rattle.exchange_table.proofs.Indexed.{index-push}
use Rattle.exchange_table.proofs.Marking.{table-push}
use Rattle.exchange_table.proofs.exchanges.Exchanges.push_in_room.Goals as goal

pub put_mark-requires-clause-order : goal.put_mark-requires-clause-order
put_mark-requires-clause-order c = c.self.invariant.keyed.order

pub put_mark-requires-2-clause-order : goal.put_mark-requires-2-clause-order
put_mark-requires-2-clause-order c = c.self.invariant.placed.order

pub invariant_of-self : goal.invariant_of-self
invariant_of-self c =
    rw (c.push_reserved-2.ensures.items, c.push_reserved.ensures.items, c.number_of.ensures)
    (table-push c.self.inside.rows.items c.args.exchange c.self.inside.names.items _ c.self.inside.keys.items c.self.inside.places.items
    c.put_mark.new.marks.items c.put_mark-2.new.marks.items
    (index-push c.self.inside.rows.items c.self.inside.names.items c.args.exchange c.self.invariant.indexed (rw (← c.self.view_is) at c.requires.latest))
    c.self.invariant
    (subst (λ (d : ℕ). (ms : List Mark) → AreGrouped digest_in ms c.self.inside.keys.items
    → AreGrouped digest_in (ms ++ record { digest = d; opening = c.args.exchange.opening } ∷ []) c.put_mark.new.marks.items) c.half_of.ensures c.put_mark.ensures)
    (subst (λ (d : ℕ). (ms : List Mark) → AreGrouped digest_in ms c.self.inside.places.items
    → AreGrouped digest_in (ms ++ record { digest = d; opening = c.args.exchange.opening } ∷ []) c.put_mark-2.new.marks.items) c.half_of-2.ensures c.put_mark-2.ensures))
