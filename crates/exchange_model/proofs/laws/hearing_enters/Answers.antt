use Rattle.exchange_model.proofs.Dropped.{dropped-stays}
use Rattle.exchange_model.proofs.Heeded.{message-enters, garbled-enters}
use Rattle.exchange_model.proofs.laws.hearing_enters.Goals as goal

pub returns-clause-message : goal.returns-clause-message
returns-clause-message c = message-enters

pub returns-clause-garbled : goal.returns-clause-garbled
returns-clause-garbled c = garbled-enters

pub returns-clause-dropped : goal.returns-clause-dropped
returns-clause-dropped c = dropped-stays
