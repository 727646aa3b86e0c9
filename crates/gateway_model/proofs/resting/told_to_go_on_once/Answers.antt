use Rattle.gateway_model.proofs.GoingOn.{acts-continue}
use Rattle.gateway_model.proofs.resting.told_to_go_on_once.Goals as goal

pub returns : goal.returns
returns c = acts-continue
