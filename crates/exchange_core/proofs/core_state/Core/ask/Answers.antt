use Rattle.exchange_core.proofs.Served.{older-than, pending-waits}
use Rattle.exchange_core.proofs.core_state.Core.ask.Goals as goal

pub returns-clause-older : goal.returns-clause-older
returns-clause-older g c =
    rw (← c.self.view_is) (older-than c.ask.result _ _ _ _ _ _ _ _ c.self.invariant.given c.ask.ensures.asks)

pub returns-clause-waits : goal.returns-clause-waits
returns-clause-waits g c =
    rw (← c.self.view_is) (pending-waits c.ask.result _ _ _ _ _ _ _ _ _ _ c.self.invariant c.ask.ensures.asks)
