use Rattle.history_claims.proofs.Together.{joined, out-of-date, heard-before, unlike, counted-twice, unjoined}
use Rattle.history_claims.proofs.worked.worked_readers.Goals as goal

pub returns-clause-joined : goal.returns-clause-joined
returns-clause-joined c = joined

pub returns-clause-out_of_date : goal.returns-clause-out_of_date
returns-clause-out_of_date c = out-of-date

pub returns-clause-heard_before : goal.returns-clause-heard_before
returns-clause-heard_before c = heard-before

pub returns-clause-unlike : goal.returns-clause-unlike
returns-clause-unlike c = unlike

pub returns-clause-counted_twice : goal.returns-clause-counted_twice
returns-clause-counted_twice c = counted-twice

pub returns-clause-unjoined : goal.returns-clause-unjoined
returns-clause-unjoined c = unjoined
