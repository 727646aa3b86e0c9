use Rattle.std.proofs.Common.{subst}
use Rattle.exchange_model.specs.Room.{KeptInRoom}
use Rattle.exchange_core.specs.Values.{CoreValue}
use Rattle.exchange_core.proofs.core_state.Core.heard.Goals as goal

pub returns-clause-kept : goal.returns-clause-kept
returns-clause-kept g c = subst (λ (v : CoreValue). KeptInRoom v.state) c.self.view_is c.self.invariant.kept
