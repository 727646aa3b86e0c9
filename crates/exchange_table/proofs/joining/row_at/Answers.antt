use Rattle.std.proofs.Common.{Some, rules, refl, sym, ap, ◌∙◌}
use Rattle.exchange_table.specs.Tables.{is_opened_at}
use Rattle.exchange_table.proofs.Standing.{find-only, find-none}
use Rattle.exchange_table.proofs.joining.row_at.Goals as goal

pub returns-in_err-place : goal.returns-in_err-place
returns-in_err-place c = rw (find-none (is_opened_at c.args.opening) c.args.rows.now (c.in_err-place.ensures.none refl)) (search rules)

pub returns : goal.returns
returns c =
    let x = c.index-rows-place.result in
    sym (find-only (is_opened_at c.args.opening) c.args.rows.now c.in_ok-place.place x c.in_ok-place.ensures.some
    ∙ ap Some (sym c.index-rows-place.is))
