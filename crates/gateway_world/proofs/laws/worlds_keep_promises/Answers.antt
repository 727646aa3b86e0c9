use Rattle.gateway_world.proofs.Promised.{keeps-promises}
use Rattle.gateway_world.proofs.laws.worlds_keep_promises.Goals as goal

pub returns : goal.returns
returns g c = keeps-promises g.R.Relation.holds g.R.Relation.takes c.in_order.ensures
