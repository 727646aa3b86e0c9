use Rattle.exchange_model.proofs.CarriedFresh.{carries-fresh}
use Rattle.exchange_model.proofs.growing.carries_nothing_outrun.Goals as goal

pub returns : goal.returns
returns c = carries-fresh
