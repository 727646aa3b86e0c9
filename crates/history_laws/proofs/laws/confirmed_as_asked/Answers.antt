use Rattle.history_laws.proofs.Renewing.{confirmed-as-asked}
use Rattle.history_laws.proofs.laws.confirmed_as_asked.Goals as goal

pub returns : goal.returns
returns c = confirmed-as-asked
