use Rattle.endpoint_table.proofs.KeptRows.{KeptInPlace}
use Rattle.endpoint_table.proofs.keeping.keep_rows.Given as goal

abbrev pub invariant-each : goal.invariant-each
invariant-each l =
    KeptInPlace l.moment l.keeping l.initial.rows.items l.rows.items l.kept l.place
