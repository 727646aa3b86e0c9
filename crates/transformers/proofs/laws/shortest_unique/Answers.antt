use Rattle.transformers.proofs.Outputs.{one_shortest, shortest_itself, shortest_tells}
use Rattle.transformers.proofs.laws.shortest_unique.Goals as goal

pub returns : goal.returns
returns c = record { one = one_shortest; itself = shortest_itself; tells = shortest_tells }
