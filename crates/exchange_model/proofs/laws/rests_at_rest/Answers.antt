use Rattle.exchange_model.proofs.ConnsTell.{conns-tell}
use Rattle.exchange_model.proofs.Resting.{rests-at-rest}
use Rattle.exchange_model.proofs.laws.rests_at_rest.Goals as goal

pub returns-clause-conns : goal.returns-clause-conns
returns-clause-conns c = conns-tell

pub returns-clause-rests : goal.returns-clause-rests
returns-clause-rests c = rests-at-rest
