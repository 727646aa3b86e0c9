use Rattle.history_laws.proofs.Endings.{rejected-holds, timed_out-holds}
use Rattle.history_laws.proofs.worked.worked_endings.Goals as goal

pub returns-clause-rejected : goal.returns-clause-rejected
returns-clause-rejected c = rejected-holds

pub returns-clause-timed_out : goal.returns-clause-timed_out
returns-clause-timed_out c = timed_out-holds
