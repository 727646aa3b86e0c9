use Rattle.exchange_model.proofs.Quiet.{copy-leads, confirms-leads}
use Rattle.exchange_model.proofs.Firsts.{first-leads}
use Rattle.exchange_model.proofs.laws.sendings_lead.Goals as goal

pub returns-clause-first : goal.returns-clause-first
returns-clause-first c = first-leads

pub returns-clause-copy : goal.returns-clause-copy
returns-clause-copy c = copy-leads

pub returns-clause-confirms : goal.returns-clause-confirms
returns-clause-confirms c = confirms-leads
