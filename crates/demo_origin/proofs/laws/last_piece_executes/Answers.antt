use Rattle.demo_origin.proofs.Acting.{last_piece_executes}
use Rattle.demo_origin.proofs.laws.last_piece_executes.Goals as goal

pub returns : goal.returns
returns g c = last_piece_executes g.H.Behaviour.relation
