use Rattle.exchange_model.proofs.Here.{gives-here, turns-here}
use Rattle.exchange_model.proofs.in_memory.giving_keeps_here.Goals as goal

pub returns-clause-gives : goal.returns-clause-gives
returns-clause-gives c = gives-here

pub returns-clause-turns : goal.returns-clause-turns
returns-clause-turns c = turns-here
