use Rattle.story_laws.proofs.Posting.{posts-once}
use Rattle.story_laws.proofs.laws.posts_once.Goals as goal

pub returns : goal.returns
returns g c = posts-once g.H.Behaviour.relation
