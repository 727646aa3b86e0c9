use Rattle.exchange_model.proofs.HeardIn.{stales-heard, store-heard}
use Rattle.exchange_model.proofs.growing.stored_was_heard.Goals as goal

pub returns-clause-stored : goal.returns-clause-stored
returns-clause-stored c = store-heard

pub returns-clause-kept : goal.returns-clause-kept
returns-clause-kept c = stales-heard
