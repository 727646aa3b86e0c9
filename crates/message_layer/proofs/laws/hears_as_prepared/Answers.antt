use Rattle.message_layer.proofs.Preparing.{hears-as-prepared}
use Rattle.message_layer.proofs.laws.hears_as_prepared.Goals as goal

pub returns : goal.returns
returns c = hears-as-prepared
