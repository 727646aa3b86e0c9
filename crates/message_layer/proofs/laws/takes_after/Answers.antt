use Rattle.message_layer.proofs.After.{takes-after}
use Rattle.message_layer.proofs.laws.takes_after.Goals as goal

pub returns : goal.returns
returns c = takes-after
