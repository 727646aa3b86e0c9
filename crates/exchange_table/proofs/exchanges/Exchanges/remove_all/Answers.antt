use Rattle.std.proofs.Common.{◌≡◌, List, ap, ◌∙◌}
use Rattle.std.specs.Prelude.{filter}
use Rattle.exchange_model.specs.declared.kept.Exchange.{Exchange}
use Rattle.exchange_table.specs.Tables.{is_under_none}
use Rattle.exchange_table.proofs.Leaving.{those-left}
use Rattle.exchange_table.proofs.exchanges.Exchanges.remove_all.Goals as goal

pub returns-clause-those : goal.returns-clause-those
returns-clause-those c = λ ends is.
    let es = c.self.inside.rows.items in
    let over : c.args.over.now ≡ filter ends es = rw (← c.self.view_is) at is in
    rw (← c.self.view_is) (c.remove_all.ensures.rows
    ∙ ap (λ (xs : List Exchange). filter (is_under_none xs) es) over
    ∙ those-left ends es c.self.inside.names.items c.self.invariant.indexed)
