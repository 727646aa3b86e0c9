use Rattle.story_laws.proofs.Ordering.{wholes-show}
use Rattle.story_laws.proofs.laws.wholes_show.Goals as goal

pub returns : goal.returns
returns g c = wholes-show g.H.Behaviour.relation c.downloads_join.ensures
