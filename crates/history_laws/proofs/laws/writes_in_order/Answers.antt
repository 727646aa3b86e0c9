use Rattle.history_laws.proofs.Parts.{writes-in-order}
use Rattle.history_laws.proofs.laws.writes_in_order.Goals as goal

pub returns : goal.returns
returns c = writes-in-order
