use Rattle.history_links.proofs.Copying.{copy-follows}
use Rattle.history_links.proofs.laws.copy_follows.Goals as goal

pub returns : goal.returns
returns c = copy-follows
