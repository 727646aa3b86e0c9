use Rattle.message_layer.proofs.Sendings.{sent-spells}
use Rattle.message_layer.proofs.laws.sent_spells.Goals as goal

pub returns : goal.returns
returns c = sent-spells
