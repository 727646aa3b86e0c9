use Rattle.history_links.proofs.Nexts.{next-follows}
use Rattle.history_links.proofs.laws.next_follows.Goals as goal

pub returns : goal.returns
returns c = next-follows
