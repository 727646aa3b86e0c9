use Rattle.exchange_model.proofs.Heeding.{hears-keeps}
use Rattle.exchange_model.proofs.laws.hearing_keeps.Goals as goal

pub returns : goal.returns
returns c = hears-keeps
