use Rattle.std.proofs.Common.{Some, rules, refl, sym, ap, ◌∙◌}
use Rattle.exchange_model.specs.Steps.{is_under}
use Rattle.exchange_table.proofs.Standing.{find-only, find-none}
use Rattle.exchange_table.proofs.rows.row_under.Goals as goal

pub returns-in_err-place : goal.returns-in_err-place
returns-in_err-place c = rw (find-none (is_under c.args.token.now) c.args.rows.now (c.in_err-place.ensures.none refl)) (search rules)

pub returns : goal.returns
returns c =
    let x = c.index-rows-place.result in
    sym (find-only (is_under c.args.token.now) c.args.rows.now c.in_ok-place.place x c.in_ok-place.ensures.some
    ∙ ap Some (sym c.index-rows-place.is))
