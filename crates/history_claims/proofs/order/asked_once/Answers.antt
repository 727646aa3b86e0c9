use Rattle.history_claims.proofs.AtHand.{asks-once}
use Rattle.history_claims.proofs.order.asked_once.Goals as goal

pub returns : goal.returns
returns c = asks-once
