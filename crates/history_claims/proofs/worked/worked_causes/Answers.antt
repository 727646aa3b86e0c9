use Rattle.history_claims.proofs.Examples.{timed-out, rejected, given-up}
use Rattle.history_claims.proofs.worked.worked_causes.Goals as goal

pub returns-clause-timed_out : goal.returns-clause-timed_out
returns-clause-timed_out c = timed-out

pub returns-clause-rejected : goal.returns-clause-rejected
returns-clause-rejected c = rejected

pub returns-clause-given_up : goal.returns-clause-given_up
returns-clause-given_up c = given-up
