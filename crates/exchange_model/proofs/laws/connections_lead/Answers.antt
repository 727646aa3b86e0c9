use Rattle.exchange_model.proofs.Silent.{opens-leads, shuts-leads, seals-leads, answers-leads}
use Rattle.exchange_model.proofs.laws.connections_lead.Goals as goal

pub returns-clause-opens : goal.returns-clause-opens
returns-clause-opens c = opens-leads

pub returns-clause-shuts : goal.returns-clause-shuts
returns-clause-shuts c = shuts-leads

pub returns-clause-seals : goal.returns-clause-seals
returns-clause-seals c = seals-leads

pub returns-clause-answers : goal.returns-clause-answers
returns-clause-answers c = answers-leads
