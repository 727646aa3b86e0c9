use Rattle.history_laws.proofs.Messages.{all_answered-holds, given_up-holds, copied_early-refused, not_waited-refused, not_acknowledged-refused, not_copied-refused}
use Rattle.history_laws.proofs.worked.worked_messages.Goals as goal

pub returns-clause-answered : goal.returns-clause-answered
returns-clause-answered c = all_answered-holds

pub returns-clause-given_up : goal.returns-clause-given_up
returns-clause-given_up c = given_up-holds

pub returns-clause-copied_early : goal.returns-clause-copied_early
returns-clause-copied_early c = copied_early-refused

pub returns-clause-not_waited : goal.returns-clause-not_waited
returns-clause-not_waited c = not_waited-refused

pub returns-clause-not_acknowledged : goal.returns-clause-not_acknowledged
returns-clause-not_acknowledged c = not_acknowledged-refused

pub returns-clause-not_copied : goal.returns-clause-not_copied
returns-clause-not_copied c = not_copied-refused
