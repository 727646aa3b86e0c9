use Rattle.history_claims.proofs.InRenewed.{other-tag, renewed, renewed-after, valid-late}
use Rattle.history_claims.proofs.worked.worked_renewed.Goals as goal

pub returns-clause-renewed : goal.returns-clause-renewed
returns-clause-renewed c = renewed

pub returns-clause-other : goal.returns-clause-other
returns-clause-other c = other-tag

pub returns-clause-late : goal.returns-clause-late
returns-clause-late c = valid-late

pub returns-clause-written : goal.returns-clause-written
returns-clause-written c = renewed-after
