use Rattle.std.proofs.Common.{refl, set, sym, ap, ◌∙◌}
use Rattle.exchange_table.proofs.Indexed.{out-only, out-nowhere}
use Rattle.exchange_table.proofs.rows.note_sending.Goals as goal

pub returns-in-Some : goal.returns-in-Some
returns-in-Some c =
    ap (set c.args.rows.now c.in-Some.place) c.go_out.ensures
    ∙ sym (out-only c.args.token.now c.args.number c.args.rows.now c.in-Some.place c.index-rows-place.result c.in-Some.ensures.some)

pub returns-in_default : goal.returns-in_default
returns-in_default c = sym (out-nowhere c.args.token.now c.args.number c.args.rows.now (c.in_default.ensures.none refl))
