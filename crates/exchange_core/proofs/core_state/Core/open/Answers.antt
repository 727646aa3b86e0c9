use Rattle.exchange_core.proofs.Served.{below-opened}
use Rattle.exchange_core.proofs.core_state.Core.open.Goals as goal

pub returns-clause-above : goal.returns-clause-above
returns-clause-above g c =
    rw (← c.self.view_is) (below-opened c.in_ok-id.id _ _ _ _ c.self.invariant c.in_ok-id.ensures.opens.0)
