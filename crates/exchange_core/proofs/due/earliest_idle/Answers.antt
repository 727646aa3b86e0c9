use Rattle.exchange_core.proofs.Idles.{idle-first}
use Rattle.exchange_core.proofs.due.earliest_idle.Goals as goal

pub returns : goal.returns
returns c = idle-first c.args.watches.now.standing c.next_due.result c.next_due.ensures c.requires.early
