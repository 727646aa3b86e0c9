use Rattle.history_links.proofs.Passing.{pass-agrees}
use Rattle.history_links.proofs.laws.pass_agrees.Goals as goal

pub returns : goal.returns
returns c = pass-agrees
