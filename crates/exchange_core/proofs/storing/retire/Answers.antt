use Rattle.std.proofs.Common.{sym, ◌∙◌}
use Rattle.exchange_core.proofs.Empty.{settled-none}
use Rattle.exchange_core.proofs.storing.retire.Goals as goal

pub returns-then-is_empty : goal.returns-then-is_empty
returns-then-is_empty g c =
    settled-none c.args.journal.now.entries c.args.ended.now c.args.store.now.pairs (sym c.is_empty.ensures ∙ c.if-is_empty.true)
