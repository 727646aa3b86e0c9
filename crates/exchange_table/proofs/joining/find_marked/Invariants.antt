-- The request joins the row of none of those that were looked at.
use Rattle.std.specs.Prelude.{◌≡◌, drop}
use Rattle.std.specs.List.{find}
use Rattle.exchange_table.specs.Joining.{is_joined_marked}
use Rattle.exchange_table.proofs.joining.find_marked.Given as goal

abbrev pub invariant-each : goal.invariant-each
invariant-each g l =
    find (is_joined_marked l.journal.entries l.mapped.sense l.rows) l.marks
    ≡ find (is_joined_marked l.journal.entries l.mapped.sense l.rows) (drop l.mark-index l.marks)
