use Rattle.history_claims.proofs.Examples.{crossed, foreseen, early}
use Rattle.history_claims.proofs.Refused.{late}
use Rattle.history_claims.proofs.worked.not_so.Goals as goal

pub returns-clause-crossed : goal.returns-clause-crossed
returns-clause-crossed c = crossed

pub returns-clause-foreseen : goal.returns-clause-foreseen
returns-clause-foreseen c = foreseen

pub returns-clause-early : goal.returns-clause-early
returns-clause-early c = early

pub returns-clause-late : goal.returns-clause-late
returns-clause-late c = late
