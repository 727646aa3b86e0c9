use Rattle.history_links.proofs.Queueing.{queued-agrees}
use Rattle.history_links.proofs.laws.queued_agrees.Goals as goal

pub returns : goal.returns
returns c = queued-agrees
