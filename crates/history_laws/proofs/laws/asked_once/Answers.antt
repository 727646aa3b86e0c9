use Rattle.history_laws.proofs.Asked.{asked-once, nothing-else-sent}
use Rattle.history_laws.proofs.Settled.{sent-at-once, answered-at-once}
use Rattle.history_laws.proofs.laws.asked_once.Goals as goal

pub returns-clause-asked : goal.returns-clause-asked
returns-clause-asked c = asked-once

pub returns-clause-sent : goal.returns-clause-sent
returns-clause-sent c = sent-at-once

pub returns-clause-answered : goal.returns-clause-answered
returns-clause-answered c = answered-at-once

pub returns-clause-nothing_else : goal.returns-clause-nothing_else
returns-clause-nothing_else c = nothing-else-sent
