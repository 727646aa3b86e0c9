use Rattle.demo_origin.proofs.Stating.{executions_tell}
use Rattle.demo_origin.proofs.laws.executions_tell.Goals as goal

pub returns : goal.returns
returns g c = executions_tell g.H.Behaviour.relation
