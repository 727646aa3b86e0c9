use Rattle.gateway_model.proofs.Shutting.{inputs-close}
use Rattle.gateway_model.proofs.resting.closings_have_reasons.Goals as goal

pub returns : goal.returns
returns c = inputs-close
