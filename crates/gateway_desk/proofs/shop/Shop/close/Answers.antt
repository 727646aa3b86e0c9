-- Closing asks nothing.
use Rattle.std.proofs.Common.{◌∙◌}
use Rattle.gateway_desk.proofs.Growing.{closes-step, as-many, unsent-on}
use Rattle.gateway_desk.proofs.shop.Shop.close.Goals as goal

pub invariant_of-self : goal.invariant_of-self
invariant_of-self g c =
    let step = closes-step c.close.result _ _ c.self.inside.core c.close.new.self c.close.ensures.closed c.close.ensures.unknown in (
      as-many _ _ _ step c.self.invariant.0,
      unsent-on _ _ _ step c.self.invariant.1,
      c.self.invariant.2,
      c.self.invariant.3,
      step.given ∙ c.self.invariant.4,
    )
