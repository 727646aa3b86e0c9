use Rattle.std.proofs.Common.{drop}
use Rattle.endpoint_table.proofs.DueRows.{TurnsSoFar}
use Rattle.endpoint_table.proofs.turns.prepare_turns.Given as goal

abbrev pub invariant-each : goal.invariant-each
invariant-each l =
    TurnsSoFar l.moment l.gone (drop l.place-index l.places) l.initial.rows.items l.rows.items l.turns.items
