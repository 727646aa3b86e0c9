use Rattle.exchange_model.proofs.Numbered.{conns-below, conns-rise}
use Rattle.exchange_model.proofs.growing.connections_rise.Goals as goal

pub returns-clause-below : goal.returns-clause-below
returns-clause-below c = conns-below

pub returns-clause-rise : goal.returns-clause-rise
returns-clause-rise c = conns-rise
