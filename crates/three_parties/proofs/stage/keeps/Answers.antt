-- The core of a world keeps what its journal says.
use Rattle.std.proofs.Common.{subst}
use Rattle.exchange_core.specs.Values.{CoreValue}
use Rattle.exchange_model.specs.Room.{KeptInRoom}
use Rattle.three_parties.proofs.stage.keeps.Goals as goal

pub returns : goal.returns
returns g c = subst (λ (v : CoreValue). KeptInRoom v.state) c.core.ensures c.journal.ensures.kept
