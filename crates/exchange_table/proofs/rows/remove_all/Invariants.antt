use Rattle.std.proofs.Common.{◌≡◌, take}
use Rattle.std.specs.Prelude.{filter}
use Rattle.exchange_table.specs.Marks.{IsTable}
use Rattle.exchange_table.specs.Tables.{is_under_none}
use Rattle.exchange_table.proofs.rows.remove_all.Given as goal

abbrev pub invariant-each : goal.invariant-each
invariant-each l =
    (l.rows.items ≡ filter (is_under_none (take l.exchange-index l.over)) l.initial.rows.items)
    × IsTable l.rows.items l.names.items l.keys.items l.places.items
