use Rattle.story_laws.proofs.Ordering.{writes-show}
use Rattle.story_laws.proofs.laws.writes_show.Goals as goal

pub returns : goal.returns
returns g c = writes-show g.H.Behaviour.relation
