-- A tick asks nothing.
use Rattle.std.proofs.Common.{◌≡◌, subst, ◌∙◌}
use Rattle.exchange_model.specs.Sealing.{ticks_in_room}
use Rattle.exchange_core.specs.Calls.{now}
use Rattle.exchange_core.specs.Values.{stepped}
use Rattle.gateway_desk.specs.Held.{ShopValue}
use Rattle.gateway_desk.proofs.Growing.{ticked-step, as-many, unsent-on}
use Rattle.gateway_desk.proofs.shop.Shop.tick.Goals as goal

pub invariant_of-self-2 : goal.invariant_of-self-2
invariant_of-self-2 g c =
    let step = ticked-step _ c.self.inside.core c.tick.new.self c.in_ok-tick.ensures.ticks in (
      as-many _ _ _ step c.self.invariant.0,
      unsent-on _ _ _ step c.self.invariant.1,
      c.self.invariant.2,
      c.self.invariant.3,
      step.given ∙ c.self.invariant.4,
    )

pub returns-clause-ticks : goal.returns-clause-ticks
returns-clause-ticks g c =
    subst (λ (v : ShopValue). c.tick.new.self
    ≡ stepped (ticks_in_room (now v.core.state.moment c.args.moment) v.core.state) v.core)
    c.self.view_is c.in_ok-tick.ensures.ticks
