use Rattle.exchange_core.proofs.acting.bring.Goals as goal

pub returns-clause-watched : goal.returns-clause-watched
returns-clause-watched g c = c.in_ok-watching.ensures.is
