use Rattle.history_laws.proofs.Readers.{both_answered-holds, read_anew-holds, asked_twice-refused, read_before-refused, put_once-refused, one_told-refused}
use Rattle.history_laws.proofs.worked.worked_readers.Goals as goal

pub returns-clause-both : goal.returns-clause-both
returns-clause-both c = both_answered-holds

pub returns-clause-anew : goal.returns-clause-anew
returns-clause-anew c = read_anew-holds

pub returns-clause-twice : goal.returns-clause-twice
returns-clause-twice c = asked_twice-refused

pub returns-clause-before : goal.returns-clause-before
returns-clause-before c = read_before-refused

pub returns-clause-put : goal.returns-clause-put
returns-clause-put c = put_once-refused

pub returns-clause-one_told : goal.returns-clause-one_told
returns-clause-one_told c = one_told-refused
