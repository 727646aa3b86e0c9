use Rattle.history_laws.proofs.Updated.{served_both-holds, served_newer-holds, left-refused, whole_asked-refused, asked_apart-refused, told_the_rest-refused, served_older-refused, fetched_twice-refused}
use Rattle.history_laws.proofs.worked.worked_updates.Goals as goal

pub returns-clause-served : goal.returns-clause-served
returns-clause-served c = served_both-holds

pub returns-clause-newer : goal.returns-clause-newer
returns-clause-newer c = served_newer-holds

pub returns-clause-left : goal.returns-clause-left
returns-clause-left c = left-refused

pub returns-clause-whole : goal.returns-clause-whole
returns-clause-whole c = whole_asked-refused

pub returns-clause-apart : goal.returns-clause-apart
returns-clause-apart c = asked_apart-refused

pub returns-clause-rest : goal.returns-clause-rest
returns-clause-rest c = told_the_rest-refused

pub returns-clause-older : goal.returns-clause-older
returns-clause-older c = served_older-refused

pub returns-clause-twice : goal.returns-clause-twice
returns-clause-twice c = fetched_twice-refused
