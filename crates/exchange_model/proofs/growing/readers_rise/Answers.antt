use Rattle.exchange_model.proofs.Known.{readers-known, readers-rise}
use Rattle.exchange_model.proofs.growing.readers_rise.Goals as goal

pub returns-clause-rise : goal.returns-clause-rise
returns-clause-rise c = readers-rise

pub returns-clause-known : goal.returns-clause-known
returns-clause-known c = readers-known
