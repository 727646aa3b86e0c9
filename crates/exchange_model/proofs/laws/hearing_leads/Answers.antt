use Rattle.exchange_model.proofs.Quiet.{repeats-leads, garbled-leads}
use Rattle.exchange_model.proofs.Heard.{hears-leads}
use Rattle.exchange_model.proofs.laws.hearing_leads.Goals as goal

pub returns-clause-repeats : goal.returns-clause-repeats
returns-clause-repeats c = repeats-leads

pub returns-clause-garbled : goal.returns-clause-garbled
returns-clause-garbled c = garbled-leads

pub returns-clause-hears : goal.returns-clause-hears
returns-clause-hears c = hears-leads
