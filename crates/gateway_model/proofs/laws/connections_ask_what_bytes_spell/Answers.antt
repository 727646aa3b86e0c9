use Rattle.gateway_model.proofs.Heeded.{inputs-ask}
use Rattle.gateway_model.proofs.laws.connections_ask_what_bytes_spell.Goals as goal

pub returns : goal.returns
returns g c = inputs-ask g.R.Relation.holds g.R.Relation.takes
