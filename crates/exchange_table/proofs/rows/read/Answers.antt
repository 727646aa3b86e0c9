use Rattle.std.proofs.Common.{refl, set, sym, ap, ◌∙◌}
use Rattle.exchange_table.proofs.Reading.{read-only, read-nowhere}
use Rattle.exchange_table.proofs.rows.read.Goals as goal

pub returns-in-Some : goal.returns-in-Some
returns-in-Some c =
    ap (set c.args.rows.now c.in-Some.place) c.read_row.ensures
    ∙ sym (read-only c.args.moment c.args.opening c.args.rows.now c.in-Some.place c.index-rows-place.result c.in-Some.ensures.some)

pub returns-in_default : goal.returns-in_default
returns-in_default c = sym (read-nowhere c.args.moment c.args.opening c.args.rows.now (c.in_default.ensures.none refl))
