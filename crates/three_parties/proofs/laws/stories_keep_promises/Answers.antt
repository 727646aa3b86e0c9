use Rattle.three_parties.proofs.Kept.{keeps}
use Rattle.three_parties.proofs.laws.stories_keep_promises.Goals as goal

pub returns : goal.returns
returns g c =
    keeps g.H.Behaviour.relation c.posts_once.ensures c.in_order.ensures c.writes_show.ensures c.wholes_show.ensures c.downloads_join.ensures
    g.R.Relation.holds g.R.Relation.takes
