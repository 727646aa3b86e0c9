use Rattle.gateway_model.proofs.Rested.{inputs-rest}
use Rattle.gateway_model.proofs.resting.nothing_is_left.Goals as goal

pub returns : goal.returns
returns c = inputs-rest
