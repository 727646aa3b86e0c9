use Rattle.demo_origin.proofs.Versioning.{versions_tell}
use Rattle.demo_origin.proofs.laws.versions_tell.Goals as goal

pub returns : goal.returns
returns g c = versions_tell g.H.Behaviour.relation
