use Rattle.demo_origin.proofs.Versioning.{tags_tell}
use Rattle.demo_origin.proofs.laws.tags_tell.Goals as goal

pub returns : goal.returns
returns g c = tags_tell g.H.Behaviour.relation
