-- Neither opening nor closing asks anything.
use Rattle.std.proofs.Common.{Ok, Err, ◌∙◌}
use Rattle.gateway_desk.proofs.Growing.{opened-step, closes-step, as-many, unsent-on}
use Rattle.gateway_desk.proofs.shop.Shop.pass_by.Goals as goal

pub invariant_of-self : goal.invariant_of-self
invariant_of-self g c =
    let step = opened-step (Err c.in_err-number.field-0.0) _ c.self.inside.core c.open.new.self c.in_err-number.ensures.opens in (
      as-many _ _ _ step c.self.invariant.0,
      unsent-on _ _ _ step c.self.invariant.1,
      c.self.invariant.2,
      c.self.invariant.3,
      step.given ∙ c.self.invariant.4,
    )

pub invariant_of-self-2 : goal.invariant_of-self-2
invariant_of-self-2 g c =
    let opened = opened-step (Ok c.in_ok-number.number) _ c.self.inside.core c.open.new.self c.in_ok-number.ensures.opens in
    let closed = closes-step c.close.result _ _ c.open.new.self c.close.new.self c.close.ensures.closed c.close.ensures.unknown in (
      as-many _ _ _ closed (as-many _ _ _ opened c.self.invariant.0),
      unsent-on _ _ _ closed (unsent-on _ _ _ opened c.self.invariant.1),
      c.self.invariant.2,
      c.self.invariant.3,
      closed.given ∙ opened.given ∙ c.self.invariant.4,
    )
