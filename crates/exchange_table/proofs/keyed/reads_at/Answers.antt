use Rattle.std.proofs.Common.{Option, false, sym, ap, ◌∙◌}
use Rattle.std.specs.Option.{option_copied, option_map_or}
use Rattle.exchange_model.specs.declared.kept.Exchange.{Exchange}
use Rattle.exchange_model.specs.Matters.{is_reading}
use Rattle.exchange_table.specs.Asks.{IsAskedHere}
use Rattle.exchange_table.specs.Tables.{is_opened_at}
use Rattle.exchange_table.proofs.Searching.{all-found}
use Rattle.exchange_table.proofs.keyed.reads_at.Goals as goal

pub returns-in-Some : goal.returns-in-Some
returns-in-Some g c =
    c.reads.ensures
    ∙ ap (λ (v : Option Exchange). option_map_or (is_reading c.args.journal.now.entries c.args.key.now) v false)
    (ap option_copied (sym c.in-Some.is) ∙ c.row_at.ensures)

pub returns-in-None : goal.returns-in-None
returns-in-None g c =
    ap (λ (v : Option Exchange). option_map_or (is_reading c.args.journal.now.entries c.args.key.now) v false)
    (ap option_copied (sym c.in-None.is) ∙ c.row_at.ensures)

pub reads-requires : goal.reads-requires
reads-requires g c =
    all-found (IsAskedHere c.args.journal.now.given c.args.journal.now.kept) (is_opened_at c.args.opening) c.args.rows.now c.in-Some.row.now c.requires.here (sym c.in-Some.ensures)
