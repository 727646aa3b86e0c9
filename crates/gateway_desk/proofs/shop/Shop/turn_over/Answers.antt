-- All asks of the journal that is given out were the passes', so the book counts none.
use Rattle.std.proofs.Common.{Err, ap, sym, ◌∙◌}
use Rattle.gateway_desk.proofs.Renewing.{counted, turned-none, turned-unsent, unsettled, turned-whole}
use Rattle.gateway_desk.proofs.shop.Shop.turn_over.Goals as goal

pub returns-in-Err-clause-refused : goal.returns-in-Err-clause-refused
returns-in-Err-clause-refused g c =
    let strange = rw (c.deref.ensures.value, c.journal.ensures.entries) at c.settled.ensures.stranger in
    let twice = rw c.deref.ensures.value at c.settled.ensures.repeated in
    let others = rw (c.deref.ensures.value, c.journal.ensures.entries) at c.settled.ensures.count in
    rw (c.settle.ensures.why, ← c.self.view_is) (
      c.turn_fault.ensures.none c.in_default.is,
      unsettled c.self.inside.core.state.entries c.args.passes.items c.in-Err.fault (λ n e. strange n (c.in-Err.is ∙ ap Err e))
          (λ n e. twice n (c.in-Err.is ∙ ap Err e)) (λ e. others (c.in-Err.is ∙ ap Err e)),
    )

pub invariant_of-self : goal.invariant_of-self
invariant_of-self g c =
    let whole = rw (c.deref.ensures.value, c.journal.ensures.entries) at c.in-Ok.ensures.whole in (
      counted _ _ _ _ (turned-none _ _ c.self.inside.core c.rotate-2.new.self c.in-Ok-rotate.ensures.turned) (sym whole ∙ c.self.invariant.0)
          c.spend_all.ensures,
      turned-unsent _ _ c.self.inside.core c.rotate-2.new.self c.in-Ok-rotate.ensures.turned,
      c.self.invariant.2,
      c.self.invariant.3,
      turned-whole _ _ c.self.inside.core c.rotate-2.new.self c.in-Ok-rotate.ensures.turned,
    )
