use Rattle.history_laws.proofs.Answering.{answered-in-order, answered-once}
use Rattle.history_laws.proofs.laws.answered_in_order.Goals as goal

pub returns-clause-in_order : goal.returns-clause-in_order
returns-clause-in_order c = answered-in-order

pub returns-clause-once : goal.returns-clause-once
returns-clause-once c = answered-once
