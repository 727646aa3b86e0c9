use Rattle.std.proofs.Common.{refl, set, sym, ap, ◌∙◌}
use Rattle.exchange_model.specs.Matters.{request_in}
use Rattle.exchange_table.specs.Outrunning.{outrun_with}
use Rattle.exchange_table.specs.Asks.{IsAskedHere}
use Rattle.exchange_table.proofs.Among.{at-nowhere, at-only}
use Rattle.exchange_table.proofs.Standing.{all-at}
use Rattle.exchange_table.proofs.outrunning.outrun_at.Goals as goal

pub returns-in-Some : goal.returns-in-Some
returns-in-Some g c =
    ap (set c.args.rows.now c.in-Some.place) c.outrun_row.ensures
    ∙ sym (at-only c.args.opening (outrun_with (request_in c.args.write.now.sense) c.args.journal.now.entries) c.args.rows.now c.in-Some.place c.index-rows-place.result c.in-Some.ensures.some)

pub returns-in_default : goal.returns-in_default
returns-in_default g c = sym (at-nowhere c.args.opening (outrun_with (request_in c.args.write.now.sense) c.args.journal.now.entries) c.args.rows.now (c.in_default.ensures.none refl))

pub outrun_row-requires : goal.outrun_row-requires
outrun_row-requires g c =
    let j = c.args.journal.now in
    all-at (IsAskedHere j.given j.kept) c.args.rows.now c.in-Some.place c.index-rows-place.result c.requires.here c.in-Some.ensures.below
