use Rattle.message_layer.proofs.HandsUp.{hands-up-once}
use Rattle.message_layer.proofs.laws.hands_up_once.Goals as goal

pub returns : goal.returns
returns c = hands-up-once
