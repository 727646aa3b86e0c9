use Rattle.exchange_model.proofs.Dropped.{gone-tokens}
use Rattle.exchange_model.proofs.TickEnters.{ticks-enter, stays-drained}
use Rattle.exchange_model.proofs.laws.ticking_enters.Goals as goal

pub returns-clause-ticks : goal.returns-clause-ticks
returns-clause-ticks c = ticks-enter

pub returns-clause-drained : goal.returns-clause-drained
returns-clause-drained c = stays-drained

pub returns-clause-gone : goal.returns-clause-gone
returns-clause-gone c = gone-tokens
