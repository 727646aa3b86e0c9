-- A datagram asks nothing.
use Rattle.std.proofs.Common.{◌∙◌}
use Rattle.gateway_desk.proofs.Growing.{heard-step, as-many, unsent-on}
use Rattle.gateway_desk.proofs.shop.Shop.heard.Goals as goal

pub invariant_of-self-2 : goal.invariant_of-self-2
invariant_of-self-2 g c =
    let step = heard-step _ _ _ _ c.self.inside.core c.heard.new.self c.in_ok-heard.ensures.heard in (
      as-many _ _ _ step c.self.invariant.0,
      unsent-on _ _ _ step c.self.invariant.1,
      c.self.invariant.2,
      c.self.invariant.3,
      step.given ∙ c.self.invariant.4,
    )
