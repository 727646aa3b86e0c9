-- Opening asks nothing.
use Rattle.std.proofs.Common.{Ok, Err, arith, ◌∙◌}
use Rattle.gateway_desk.proofs.Growing.{opened-step, as-many, unsent-on}
use Rattle.gateway_desk.proofs.shop.Shop.open.Goals as goal

pub invariant_of-self : goal.invariant_of-self
invariant_of-self g c =
    let step = opened-step (Err c.in_err-conn.field-0.0) _ c.self.inside.core c.open.new.self c.in_err-conn.ensures.opens in (
      as-many _ _ _ step c.self.invariant.0,
      unsent-on _ _ _ step c.self.invariant.1,
      c.self.invariant.2,
      c.self.invariant.3,
      step.given ∙ c.self.invariant.4,
    )

pub invariant_of-self-2 : goal.invariant_of-self-2
invariant_of-self-2 g c =
    let step = opened-step (Ok c.in_ok-conn.conn) _ c.self.inside.core c.open.new.self c.in_ok-conn.ensures.opens in (
      as-many _ _ _ step c.self.invariant.0,
      unsent-on _ _ _ step c.self.invariant.1,
      omega (arith, c.split_off-share.ensures.amount_left, c.self.invariant.2),
      omega (arith, c.split_off-share.ensures.parts_left, c.self.invariant.3),
      step.given ∙ c.self.invariant.4,
    )
