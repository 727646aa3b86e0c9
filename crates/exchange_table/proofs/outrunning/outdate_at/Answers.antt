use Rattle.std.proofs.Common.{refl, set, sym, ap, ◌∙◌}
use Rattle.exchange_model.specs.Hearing.{outdated_by}
use Rattle.exchange_table.specs.Asks.{IsAskedHere}
use Rattle.exchange_table.proofs.Among.{at-nowhere, at-only}
use Rattle.exchange_table.proofs.Standing.{all-at}
use Rattle.exchange_table.proofs.outrunning.outdate_at.Goals as goal

pub returns-in-Some : goal.returns-in-Some
returns-in-Some g c =
    ap (set c.args.rows.now c.in-Some.place) c.outdate_row.ensures
    ∙ sym (at-only c.args.opening (outdated_by c.args.journal.now.entries c.args.key.now) c.args.rows.now c.in-Some.place c.index-rows-place.result c.in-Some.ensures.some)

pub returns-in_default : goal.returns-in_default
returns-in_default g c = sym (at-nowhere c.args.opening (outdated_by c.args.journal.now.entries c.args.key.now) c.args.rows.now (c.in_default.ensures.none refl))

pub outdate_row-requires : goal.outdate_row-requires
outdate_row-requires g c =
    let j = c.args.journal.now in
    all-at (IsAskedHere j.given j.kept) c.args.rows.now c.in-Some.place c.index-rows-place.result c.requires.here c.in-Some.ensures.below
