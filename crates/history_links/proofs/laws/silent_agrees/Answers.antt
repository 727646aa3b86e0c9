use Rattle.history_links.proofs.Silence.{silent-agrees}
use Rattle.history_links.proofs.laws.silent_agrees.Goals as goal

pub returns : goal.returns
returns c = silent-agrees
