use Rattle.exchange_model.proofs.Running.{answered-run, given-up-run}
use Rattle.exchange_model.proofs.laws.worked_runs.Goals as goal

pub returns-clause-given_up : goal.returns-clause-given_up
returns-clause-given_up c = given-up-run

pub returns-clause-answered : goal.returns-clause-answered
returns-clause-answered c = answered-run
