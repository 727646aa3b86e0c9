use Rattle.story_laws.proofs.Forgetting.{forgotten-before}
use Rattle.story_laws.proofs.laws.forgotten_before.Goals as goal

pub returns : goal.returns
returns g c = forgotten-before g.H.Behaviour.relation
