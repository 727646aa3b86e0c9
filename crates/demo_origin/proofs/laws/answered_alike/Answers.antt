use Rattle.demo_origin.proofs.Again.{answered_alike}
use Rattle.demo_origin.proofs.laws.answered_alike.Goals as goal

pub returns : goal.returns
returns g c = answered_alike g.H.Behaviour.relation
