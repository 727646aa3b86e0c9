use Rattle.exchange_core.proofs.Takes.{taken, sound-taken}
use Rattle.exchange_core.proofs.core_state.Core.take_answer.Goals as goal

pub invariant_of-self : goal.invariant_of-self
invariant_of-self g c =
    sound-taken _ _ _ _ _ _ c.self.invariant c.take_answer.ensures.others

pub returns : goal.returns
returns g c =
    rw (← c.self.view_is) (taken c.take_answer.result _ _ _ _ _ c.self.invariant.given c.take_answer.ensures.some c.take_answer.ensures.none c.take_answer.ensures.others)
