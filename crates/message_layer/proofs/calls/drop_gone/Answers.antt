use Rattle.std.proofs.Common.{sym, ◌∙◌}
use Rattle.message_layer.specs.Values.{seen}
use Rattle.message_layer.proofs.Preparing.{same-without, none-long}
use Rattle.message_layer.proofs.calls.drop_gone.Goals as goal

pub returns-else-not-is_empty-clause-state : goal.returns-else-not-is_empty-clause-state
returns-else-not-is_empty-clause-state c =
    same-without c.args.gone.now (seen c.args.s.now) (none-long c.args.gone.now (sym c.is_empty.ensures ∙ c.if-not-is_empty.false))
