use Rattle.history_laws.proofs.Outstanding.{one-outstanding, few-copies}
use Rattle.history_laws.proofs.Copying.{copied-in-time, none-left}
use Rattle.history_laws.proofs.laws.one_outstanding.Goals as goal

pub returns-clause-one : goal.returns-clause-one
returns-clause-one c = one-outstanding

pub returns-clause-few : goal.returns-clause-few
returns-clause-few c = few-copies

pub returns-clause-in_time : goal.returns-clause-in_time
returns-clause-in_time c = copied-in-time

pub returns-clause-none_left : goal.returns-clause-none_left
returns-clause-none_left c = none-left
