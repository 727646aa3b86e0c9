use Rattle.std.proofs.Common.{rules}
use Rattle.observe_share.proofs.watch.counts.Goals as goal

pub returns-in-Other-None : goal.returns-in-Other-None
returns-in-Other-None c = search rules

pub returns-in-Update : goal.returns-in-Update
returns-in-Update c = search rules
