use Rattle.exchange_model.proofs.Here.{asks-here, hears-here, opens-here, shuts-here, starts-here, ticks-here}
use Rattle.exchange_model.proofs.in_memory.calls_keep_here.Goals as goal

pub returns-clause-start : goal.returns-clause-start
returns-clause-start c = starts-here

pub returns-clause-opens : goal.returns-clause-opens
returns-clause-opens c = opens-here

pub returns-clause-shuts : goal.returns-clause-shuts
returns-clause-shuts c = shuts-here

pub returns-clause-asks : goal.returns-clause-asks
returns-clause-asks c = asks-here

pub returns-clause-hears : goal.returns-clause-hears
returns-clause-hears c = hears-here

pub returns-clause-ticks : goal.returns-clause-ticks
returns-clause-ticks c = ticks-here
