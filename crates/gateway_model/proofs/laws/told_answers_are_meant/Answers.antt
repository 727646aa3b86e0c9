use Rattle.gateway_model.proofs.Shown.{told-meant}
use Rattle.gateway_model.proofs.laws.told_answers_are_meant.Goals as goal

pub returns : goal.returns
returns g c = told-meant g.R.Relation.holds g.R.Relation.takes
