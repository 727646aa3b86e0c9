-- The datagrams go out before the answers.
use Rattle.gateway_model.specs.Orders.{AreSends, HasTurns, Delivers}
use Rattle.gateway_world.proofs.Acting.{then-ok}
use Rattle.gateway_world.proofs.Answering.{sent-served}
use Rattle.gateway_world.proofs.Lead.{leads-then}
use Rattle.gateway_model.proofs.CallerLemmas.{delivers-on}
use Rattle.gateway_world.proofs.engine.Engine.deliver.Goals as goal

pub returns-clause-leads : goal.returns-clause-leads
returns-clause-leads g c =
    then-ok c.answer_all.result _ _ c.answer_all.ensures.leads
    (λ answers. leads-then _ _ AreSends HasTurns Delivers _ _ _ _ _ _ delivers-on c.in_ok-send_all.ensures.leads answers)

pub answer_all-requires-clause-served : goal.answer_all-requires-clause-served
answer_all-requires-clause-served g c =
    sent-served c.args.self.now.core c.send_all.new.self.core c.in_ok-send_all.ensures.sent c.requires.served
