use Rattle.exchange_model.proofs.Ticking.{ticks-keeps, ticks-do}
use Rattle.exchange_model.proofs.Due.{next-due}
use Rattle.exchange_model.proofs.laws.ticking_keeps.Goals as goal

pub returns-clause-keeps : goal.returns-clause-keeps
returns-clause-keeps c = ticks-keeps

pub returns-clause-done : goal.returns-clause-done
returns-clause-done c = ticks-do

pub returns-clause-due : goal.returns-clause-due
returns-clause-due c = next-due
