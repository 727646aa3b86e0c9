use Rattle.exchange_model.proofs.Grown.{opens-add, shuts-add, seals-add, asks-add, hears-add, late-adds, ticks-add}
use Rattle.exchange_model.proofs.growing.calls_add.Goals as goal

pub returns-clause-opens : goal.returns-clause-opens
returns-clause-opens c = opens-add

pub returns-clause-shuts : goal.returns-clause-shuts
returns-clause-shuts c = shuts-add

pub returns-clause-seals : goal.returns-clause-seals
returns-clause-seals c = seals-add

pub returns-clause-asks : goal.returns-clause-asks
returns-clause-asks c = asks-add

pub returns-clause-hears : goal.returns-clause-hears
returns-clause-hears c = hears-add

pub returns-clause-late : goal.returns-clause-late
returns-clause-late c = late-adds

pub returns-clause-ticks : goal.returns-clause-ticks
returns-clause-ticks c = ticks-add
