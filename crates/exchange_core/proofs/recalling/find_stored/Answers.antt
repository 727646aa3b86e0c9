use Rattle.std.proofs.Common.{sym, ◌∙◌}
use Rattle.exchange_core.proofs.Empty.{served-none}
use Rattle.exchange_core.proofs.recalling.find_stored.Goals as goal

pub returns-then-is_empty : goal.returns-then-is_empty
returns-then-is_empty g c =
    served-none c.args.mapped.now.sense c.args.moment c.args.store.now.pairs (sym c.is_empty.ensures ∙ c.if-is_empty.true)
