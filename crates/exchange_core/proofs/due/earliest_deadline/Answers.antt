use Rattle.std.proofs.Common.{◌+◌, Some, ap, ◌∙◌}
use Rattle.exchange_model.specs.declared.kept.Exchange.{Exchange}
use Rattle.exchange_core.proofs.Sinces.{first-late}
use Rattle.exchange_core.proofs.due.earliest_deadline.Goals as goal

pub returns-in-len1-up : goal.returns-in-len1-up
returns-in-len1-up c =
    ap (λ (x : Exchange). Some (x.since + 93000)) c.first-item.is
    ∙ first-late c.args.exchanges.now c.first-item.result c.in-len1-up.len_at_least c.requires.ordered
