use Rattle.demo_origin.proofs.Asking.{registrations_are_asked}
use Rattle.demo_origin.proofs.laws.registrations_are_asked.Goals as goal

pub returns : goal.returns
returns g c = registrations_are_asked g.H.Behaviour.relation
