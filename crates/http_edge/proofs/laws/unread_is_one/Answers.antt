use Rattle.http_edge.proofs.Leftovers as law
use Rattle.http_edge.proofs.laws.unread_is_one.Goals as goal

pub returns : goal.returns
returns c = law.left_is_one
