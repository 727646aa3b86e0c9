use Rattle.exchange_model.proofs.Giving.{gives-free, gives-keeps}
use Rattle.exchange_model.proofs.sealing.giving_keeps.Goals as goal

pub returns-clause-keeps : goal.returns-clause-keeps
returns-clause-keeps c = gives-keeps

pub returns-clause-free : goal.returns-clause-free
returns-clause-free c = gives-free
