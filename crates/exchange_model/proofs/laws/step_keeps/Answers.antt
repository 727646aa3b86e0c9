use Rattle.exchange_model.proofs.Started.{start-keeps}
use Rattle.exchange_model.proofs.Stepping.{kept-stands, opens-keeps, shuts-keeps, seals-keeps, asks-keeps}
use Rattle.exchange_model.proofs.laws.step_keeps.Goals as goal

pub returns-clause-start : goal.returns-clause-start
returns-clause-start c = start-keeps

pub returns-clause-stands : goal.returns-clause-stands
returns-clause-stands c = kept-stands

pub returns-clause-opens : goal.returns-clause-opens
returns-clause-opens c = opens-keeps

pub returns-clause-shuts : goal.returns-clause-shuts
returns-clause-shuts c = shuts-keeps

pub returns-clause-seals : goal.returns-clause-seals
returns-clause-seals c = seals-keeps

pub returns-clause-asks : goal.returns-clause-asks
returns-clause-asks c = asks-keeps
