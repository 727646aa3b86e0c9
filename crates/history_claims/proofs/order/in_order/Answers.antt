use Rattle.history_claims.proofs.InOrder.{in-order}
use Rattle.history_claims.proofs.order.in_order.Goals as goal

pub returns : goal.returns
returns c = in-order c.writes_in_order.ensures
