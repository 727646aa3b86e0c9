use Rattle.std.proofs.Common.{sym, ap, ◌∙◌}
use Rattle.std.specs.Prelude.{option_and_then, option_map}
use Rattle.exchange_table.proofs.Reading.{is-read}
use Rattle.exchange_table.proofs.keyed.reads.Goals as goal

pub returns-in-Some-reading : goal.returns-in-Some-reading
returns-in-Some-reading g c =
    is-read c.args.journal.now.entries c.args.key.now _ c.args.row.now c.in-Some.mapped.now.sense _
    (sym (ap (option_and_then _) c.in-Some.is) ∙ c.asked.ensures)
    (sym (ap (option_map _) c.in-Some-reading.is) ∙ c.reading.ensures) (sym c.is_of.ensures)
