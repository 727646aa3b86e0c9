use Rattle.story_laws.proofs.Showing.{replies-show}
use Rattle.story_laws.proofs.laws.replies_show.Goals as goal

pub returns : goal.returns
returns g c = replies-show g.H.Behaviour.relation
