use Rattle.gateway_model.proofs.Shown.{all-tell, whole-told}
use Rattle.gateway_model.proofs.laws.connections_are_told.Goals as goal

pub returns-clause-all : goal.returns-clause-all
returns-clause-all g c = all-tell g.R.Relation.holds g.R.Relation.takes

pub returns-clause-whole : goal.returns-clause-whole
returns-clause-whole g c = whole-told g.R.Relation.holds g.R.Relation.takes
