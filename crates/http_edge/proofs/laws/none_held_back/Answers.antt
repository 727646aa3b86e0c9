use Rattle.http_edge.proofs.Cutting as law
use Rattle.http_edge.proofs.laws.none_held_back.Goals as goal

pub returns : goal.returns
returns c = law.none_held_back
