use Rattle.exchange_model.proofs.Quiet.{asks-leads, joins-leads, recalls-leads}
use Rattle.exchange_model.proofs.Begins.{begins-leads}
use Rattle.exchange_model.proofs.laws.asks_lead.Goals as goal

pub returns-clause-refused : goal.returns-clause-refused
returns-clause-refused c = asks-leads

pub returns-clause-joins : goal.returns-clause-joins
returns-clause-joins c = joins-leads

pub returns-clause-begins : goal.returns-clause-begins
returns-clause-begins c = begins-leads

pub returns-clause-recalls : goal.returns-clause-recalls
returns-clause-recalls c = recalls-leads
