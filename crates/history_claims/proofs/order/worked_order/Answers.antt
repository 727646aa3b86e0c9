use Rattle.history_claims.proofs.InWorked.{copied-early, in-order-both, not-waited}
use Rattle.history_claims.proofs.InDeleted.{sent-twice}
use Rattle.history_claims.proofs.order.worked_order.Goals as goal

pub returns-clause-in_order : goal.returns-clause-in_order
returns-clause-in_order c = in-order-both c.writes_in_order.ensures

pub returns-clause-early : goal.returns-clause-early
returns-clause-early c = copied-early

pub returns-clause-at_once : goal.returns-clause-at_once
returns-clause-at_once c = not-waited

pub returns-clause-twice : goal.returns-clause-twice
returns-clause-twice c = sent-twice
