use Rattle.exchange_core.proofs.TickNext.{next-tick}
use Rattle.exchange_core.proofs.core_state.Core.next_due.Goals as goal

pub returns-clause-exact : goal.returns-clause-exact
returns-clause-exact g c =
    rw (← c.self.view_is) (rw (c.next_tick.ensures)
    (next-tick _ c.self.invariant.kept c.self.invariant.drained))
