use Rattle.history_claims.proofs.Served.{rests-on-stored}
use Rattle.history_claims.proofs.laws.rests_on_stored.Goals as goal

pub returns : goal.returns
returns c = rests-on-stored
