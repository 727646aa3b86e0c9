use Rattle.std.proofs.Common.{sym, subst}
use Rattle.endpoint_table.specs.Dues.{Ordered}
use Rattle.endpoint_table.proofs.TimerOrder.{ordered-removed}
use Rattle.endpoint_table.proofs.dues.set_due.Goals as goal

pub put_due-requires-clause-ordered : goal.put_due-requires-clause-ordered
put_due-requires-clause-ordered c =
    subst Ordered (sym c.remove_due.ensures.items)
    (ordered-removed c.args.place c.args.dues.now.items c.requires.ordered)
