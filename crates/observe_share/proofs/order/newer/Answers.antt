use Rattle.std.proofs.Common.{rules}
use Rattle.observe_share.proofs.order.newer.Goals as goal

pub returns-then-t2-t1-clause-formula : goal.returns-then-t2-t1-clause-formula
returns-then-t2-t1-clause-formula c = search rules

pub returns-then-t2-t1-clause-value : goal.returns-then-t2-t1-clause-value
returns-then-t2-t1-clause-value c = search rules

pub returns-else-t2-t1-clause-formula : goal.returns-else-t2-t1-clause-formula
returns-else-t2-t1-clause-formula c = search rules

pub returns-else-t2-t1-clause-value : goal.returns-else-t2-t1-clause-value
returns-else-t2-t1-clause-value c = search rules
