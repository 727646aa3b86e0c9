use Rattle.demo_origin.proofs.Making.{answers_are_made}
use Rattle.demo_origin.proofs.laws.answers_are_made.Goals as goal

pub returns : goal.returns
returns g c = answers_are_made g.H.Behaviour.relation
