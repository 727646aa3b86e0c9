use Rattle.std.proofs.Common.{subst, sym, ap, ◌∙◌}
use Rattle.std.specs.List.{AllByRecursion}
use Rattle.history_laws.proofs.CallerLemmas.{all-filter}
use Rattle.exchange_model.specs.Matters.{IsDigested, left_by}
use Rattle.exchange_table.specs.Tables.{is_under_none}
use Rattle.exchange_table.specs.Asks.{IsAskedHere}
use Rattle.exchange_core.proofs.expiring.end_all.Goals as goal

pub outrun_all-requires-clause-digested : goal.outrun_all-requires-clause-digested
outrun_all-requires-clause-digested g c =
    let ws = c.args.journal.now.entries in
    subst (AllByRecursion (IsDigested ws)) (sym c.remove_all.ensures.others)
    (all-filter (IsDigested ws) (is_under_none c.args.over.now) c.args.exchanges.now.exchanges c.requires.digested)

pub returns : goal.returns
returns g c = λ ends is.
    c.outrun_all.ensures ∙ ap (left_by c.args.journal.now.entries c.args.over.now) (c.remove_all.ensures.those ends is)

pub outrun_all-requires-clause-here : goal.outrun_all-requires-clause-here
outrun_all-requires-clause-here g c =
    let j = c.args.journal.now in
    subst (AllByRecursion (IsAskedHere j.given j.kept)) (sym c.remove_all.ensures.others)
    (all-filter (IsAskedHere j.given j.kept) (is_under_none c.args.over.now) c.args.exchanges.now.exchanges c.requires.here)
