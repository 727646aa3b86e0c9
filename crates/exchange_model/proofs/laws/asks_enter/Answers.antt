use Rattle.exchange_model.proofs.Begun.{begins-enter, served-enters, joins-enter, refusals-enter, busy-enters}
use Rattle.exchange_model.proofs.laws.asks_enter.Goals as goal

pub returns-clause-begins : goal.returns-clause-begins
returns-clause-begins c = begins-enter

pub returns-clause-joins : goal.returns-clause-joins
returns-clause-joins c = joins-enter

pub returns-clause-refused : goal.returns-clause-refused
returns-clause-refused c = refusals-enter

pub returns-clause-busy : goal.returns-clause-busy
returns-clause-busy c = busy-enters

pub returns-clause-served : goal.returns-clause-served
returns-clause-served c = served-enters
