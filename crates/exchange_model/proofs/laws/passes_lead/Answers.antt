use Rattle.exchange_model.proofs.Passing.{passes-leads}
use Rattle.exchange_model.proofs.laws.passes_lead.Goals as goal

pub returns : goal.returns
returns c = passes-leads
