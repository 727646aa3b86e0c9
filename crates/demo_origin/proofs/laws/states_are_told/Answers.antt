use Rattle.demo_origin.proofs.Stating.{states_are_told}
use Rattle.demo_origin.proofs.laws.states_are_told.Goals as goal

pub returns : goal.returns
returns g c = states_are_told g.H.Behaviour.relation
