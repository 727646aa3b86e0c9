use Rattle.std.proofs.Common.{◌≡◌, true, List, length, sym, subst, ◌∙◌}
use Rattle.std.specs.Prelude.{◌==◌}
use Rattle.exchange_model.specs.declared.kept.Exchange.{Exchange}
use Rattle.exchange_table.specs.Joining.{is_joined_by}
use Rattle.exchange_core.proofs.Empty.{finds-none}
use Rattle.exchange_core.proofs.joining.find_joined.Goals as goal

pub returns-then-is_empty : goal.returns-then-is_empty
returns-then-is_empty g c =
    finds-none (is_joined_by c.args.journal.now.entries c.args.mapped.now.sense) c.args.exchanges.now.exchanges
    (subst (λ (es : List Exchange). (length es == 0) ≡ true) c.as_slice.ensures.all (sym c.is_empty.ensures ∙ c.if-is_empty.true))
