-- Taking an answer asks nothing.
use Rattle.std.proofs.Common.{rules, option_map, ◌∙◌}
use Rattle.exchange_core.specs.Answering.{given_of}
use Rattle.gateway_desk.proofs.Growing.{taken-step, as-many, unsent-on}
use Rattle.gateway_desk.proofs.shop.Shop.take_answer.Goals as goal

pub invariant_of-self : goal.invariant_of-self
invariant_of-self g c =
    let step = taken-step (option_map given_of c.take_answer.result) _ c.self.inside.core c.take_answer.new.self c.take_answer.ensures in (
      as-many _ _ _ step c.self.invariant.0,
      unsent-on _ _ _ step c.self.invariant.1,
      c.self.invariant.2,
      c.self.invariant.3,
      step.given ∙ c.self.invariant.4,
    )

pub returns-clause-taken : goal.returns-clause-taken
returns-clause-taken g c = search rules
