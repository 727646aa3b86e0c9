use Rattle.std.specs.Prelude.{vec_capacity}
use Rattle.std.specs.VecDeque.{deque_len}
use Rattle.endpoint_table.specs.Dues.{AreDues}
use Rattle.endpoint_table.proofs.TickedDue.{AreLeft}
use Rattle.endpoint_table.proofs.turns.tick_due.Given as goal

abbrev pub invariant-each : goal.invariant-each
invariant-each l = record {
  left : AreLeft l.moment l.gone l.rows.items l.initial.rows.items l.turns.items;
  dues : AreDues l.rows.items l.dues.items (vec_capacity l.dues);
}

abbrev pub decreases-each : goal.decreases-each
decreases-each l = deque_len l.turns
