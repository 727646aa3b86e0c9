use Rattle.std.proofs.Common.{rules}
use Rattle.std.proofs.lemmas.Result.{err_from_is_err_and}
use Rattle.proxy_settings.proofs.Tables.{checked_more, checked_fails, checked_done}
use Rattle.proxy_settings.proofs.rows.check_all.Goals as goal

pub returns-in_err-check_row : goal.returns-in_err-check_row
returns-in_err-check_row g c =
    let p = err_from_is_err_and c.from_residual.result c.from_residual.ensures.1 in
    rw p.1 (checked_fails (g.K.Rows.is_row c.args.kind.now) c.args.values.now c.each.number c.index-values-number.result c.each-test.true (search rules) c.in_err-check_row.ensures c.each.invariant)

pub each-preserved : goal.each-preserved
each-preserved g c =
    checked_more (g.K.Rows.is_row c.args.kind.now) c.args.values.now c.each.number c.index-values-number.result c.each-test.true (search rules) c.in_ok-check_row.ensures c.each.invariant

pub returns : goal.returns
returns g c = checked_done (g.K.Rows.is_row c.args.kind.now) c.args.values.now c.each.number c.each-test.false c.each.invariant
