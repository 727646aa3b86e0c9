use Rattle.message_layer.proofs.RunLaws.{run-keeps-turn}
use Rattle.message_layer.proofs.laws.run_keeps_turn.Goals as goal

pub returns : goal.returns
returns c = run-keeps-turn
