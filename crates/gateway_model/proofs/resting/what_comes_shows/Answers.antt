use Rattle.gateway_model.proofs.Enters.{inputs-show, ticks-show}
use Rattle.gateway_model.proofs.resting.what_comes_shows.Goals as goal

pub returns-clause-inputs : goal.returns-clause-inputs
returns-clause-inputs c = inputs-show

pub returns-clause-ticks : goal.returns-clause-ticks
returns-clause-ticks c = ticks-show
