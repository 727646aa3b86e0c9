use Rattle.gateway_model.proofs.Shown.{all-go-out, all-send-just}
use Rattle.gateway_model.proofs.laws.datagrams_go_out.Goals as goal

pub returns-clause-all : goal.returns-clause-all
returns-clause-all g c = all-go-out g.R.Relation.holds g.R.Relation.takes

pub returns-clause-just : goal.returns-clause-just
returns-clause-just g c = all-send-just g.R.Relation.holds g.R.Relation.takes
