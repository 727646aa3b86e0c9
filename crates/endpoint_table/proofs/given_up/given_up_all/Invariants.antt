use Rattle.std.proofs.Common.{drop}
use Rattle.endpoint_table.proofs.GivenRows.{GivenSoFar}
use Rattle.endpoint_table.proofs.given_up.given_up_all.Given as goal

abbrev pub invariant-each : goal.invariant-each
invariant-each l =
    GivenSoFar l.moment (drop l.place-index l.places) l.initial.rows.items l.rows.items l.given.items
