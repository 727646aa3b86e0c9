use Rattle.transformers.proofs.Shorter.{shortest_least}
use Rattle.transformers.proofs.laws.none_shorter.Goals as goal

pub returns : goal.returns
returns c = λ x d ok e. shortest_least x d ok e
