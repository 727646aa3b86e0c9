-- Why there is nothing to be given out.
use Rattle.exchange_core.proofs.core_state.Core.give.Goals as goal

pub returns-clause-none : goal.returns-clause-none
returns-clause-none g c = rw (← c.self.view_is) c.give.ensures.none
