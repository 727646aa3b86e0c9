use Rattle.std.proofs.Common.{sym, ◌∙◌}
use Rattle.exchange_core.proofs.Empty.{outdated-empty}
use Rattle.exchange_core.proofs.Settling.{outdated-some}
use Rattle.exchange_core.proofs.storing.outdate.Goals as goal

pub returns-then-is_empty : goal.returns-then-is_empty
returns-then-is_empty g c =
    outdated-empty c.args.journal.now.entries c.args.ended.now c.args.store.now.pairs (sym c.is_empty.ensures ∙ c.if-is_empty.true)

pub returns-in-Some : goal.returns-in-Some
returns-in-Some g c =
    outdated-some c.args.journal.now.entries c.args.ended.now c.in-Some.sought c.args.store.now.pairs c.outdate.new.self.pairs
    c.in-Some.ensures c.outdate.ensures.pairs c.outdate.ensures.few
