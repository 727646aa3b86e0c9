use Rattle.std.proofs.Common.{rules, Err, ap, ◌∙◌}
use Rattle.std.proofs.lemmas.Result.{err_from_is_err_and}
use Rattle.proxy_settings.proofs.Tables.{row_fails_so, rows_all}
use Rattle.proxy_settings.proofs.rows.read_all.Goals as goal

pub returns-in_err-row : goal.returns-in_err-row
returns-in_err-row g c =
    let p = err_from_is_err_and c.from_residual.result c.from_residual.ensures.1 in
    row_fails_so (g.K.Rows.is_row c.args.kind.now) c.args.values.now c.each.value-index c.value-item.result c.each.rows c.each-test.true (search rules)
    c.in_err-row.field-0.0 c.from_residual.result (p.1 ∙ ap (λ e. Err e) p.2) c.in_err-row.ensures c.each.invariant

pub returns : goal.returns
returns g c = rows_all (g.K.Rows.is_row c.args.kind.now) c.args.values.now c.each.value-index c.each.rows c.each-test.false c.each.invariant
