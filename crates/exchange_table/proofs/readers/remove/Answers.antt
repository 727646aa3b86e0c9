use Rattle.std.proofs.Common.{refl, sym}
use Rattle.exchange_table.specs.Places.{IsNowhere}
use Rattle.exchange_table.specs.Readers.{has_ask}
use Rattle.exchange_table.proofs.Standing.{filter-none}
use Rattle.exchange_table.proofs.readers.remove.Goals as goal

pub returns-in_default-clause-rows : goal.returns-in_default-clause-rows
returns-in_default-clause-rows c =
    let none : IsNowhere (has_ask c.args.ask) c.args.rows.now.items = rw (c.as_slice.ensures.value) at (c.in_default.ensures.none refl) in
    sym (filter-none (has_ask c.args.ask) c.args.rows.now.items none)
