use Rattle.story_laws.proofs.Asked.{asked-once}
use Rattle.story_laws.proofs.laws.asked_once.Goals as goal

pub returns : goal.returns
returns g c = asked-once g.H.Behaviour.relation
