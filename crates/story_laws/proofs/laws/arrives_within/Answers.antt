use Rattle.story_laws.proofs.Forgetting.{arrives-within}
use Rattle.story_laws.proofs.laws.arrives_within.Goals as goal

pub returns : goal.returns
returns g c = arrives-within g.H.Behaviour.relation
