use Rattle.message_layer.proofs.RunLaws.{run-transmits}
use Rattle.message_layer.proofs.laws.run_transmits.Goals as goal

pub returns : goal.returns
returns c = run-transmits
