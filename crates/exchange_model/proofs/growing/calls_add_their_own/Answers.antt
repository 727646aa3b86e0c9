use Rattle.exchange_model.proofs.Grown.{opens-alone, asks-answer, hears-answer, ticks-answer}
use Rattle.exchange_model.proofs.growing.calls_add_their_own.Goals as goal

pub returns-clause-opens : goal.returns-clause-opens
returns-clause-opens c = opens-alone

pub returns-clause-asks : goal.returns-clause-asks
returns-clause-asks c = asks-answer

pub returns-clause-hears : goal.returns-clause-hears
returns-clause-hears c = hears-answer

pub returns-clause-ticks : goal.returns-clause-ticks
returns-clause-ticks c = ticks-answer
