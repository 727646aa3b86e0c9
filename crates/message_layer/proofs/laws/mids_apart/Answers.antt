use Rattle.message_layer.proofs.Apart.{mids-apart}
use Rattle.message_layer.proofs.laws.mids_apart.Goals as goal

pub returns : goal.returns
returns c = mids-apart
