use Rattle.std.proofs.Common.{◌≡◌, filter, length, true}
use Rattle.resp_cache.specs.Stores.{is_elsewhere}
use Rattle.resp_cache.specs.Tables.{IsTable, has_table_room, pairs_of}
use Rattle.resp_cache.proofs.table.drop_place.Given as goal

abbrev pub invariant-each : goal.invariant-each
invariant-each l =
    IsTable l.table
    × (filter (is_elsewhere l.changed.place) (pairs_of l.table) ≡ filter (is_elsewhere l.changed.place) (pairs_of l.initial.table))
    × (has_table_room l.initial.table ≡ true → has_table_room l.table ≡ true)

abbrev pub decreases-each : goal.decreases-each
decreases-each l = length (pairs_of l.table)
