use Rattle.demo_origin.proofs.Repeats.{executed_once}
use Rattle.demo_origin.proofs.laws.executed_once.Goals as goal

pub returns : goal.returns
returns g c = executed_once g.H.Behaviour.relation
