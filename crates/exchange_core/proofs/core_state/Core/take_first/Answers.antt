use Rattle.std.specs.Prelude.{option_map}
use Rattle.exchange_core.specs.Answering.{given_of}
use Rattle.exchange_core.proofs.Served.{first-taken, sound-first}
use Rattle.exchange_core.proofs.core_state.Core.take_first.Goals as goal

pub invariant_of-self : goal.invariant_of-self
invariant_of-self g c = sound-first (option_map given_of c.take_first.result) _ _ _ _ _ c.self.invariant c.take_first.ensures

pub returns : goal.returns
returns g c = rw (← c.self.view_is) (first-taken c.take_first.result _ _ _ _ c.self.invariant.given c.take_first.ensures)
