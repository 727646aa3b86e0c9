use Rattle.history_laws.proofs.Begun.{fetched-in-order}
use Rattle.history_laws.proofs.Quiet.{sends-next}
use Rattle.history_laws.proofs.laws.fetched_in_order.Goals as goal

pub returns-clause-next : goal.returns-clause-next
returns-clause-next c = sends-next

pub returns-clause-order : goal.returns-clause-order
returns-clause-order c = fetched-in-order
