use Rattle.history_laws.proofs.Copied.{answered_anew-holds, token_used_again-refused, id_used_again-refused, copy_heard_as_new-refused, copied_late-refused}
use Rattle.history_laws.proofs.worked.worked_copies.Goals as goal

pub returns-clause-answered : goal.returns-clause-answered
returns-clause-answered c = answered_anew-holds

pub returns-clause-token : goal.returns-clause-token
returns-clause-token c = token_used_again-refused

pub returns-clause-id : goal.returns-clause-id
returns-clause-id c = id_used_again-refused

pub returns-clause-heard_as_new : goal.returns-clause-heard_as_new
returns-clause-heard_as_new c = copy_heard_as_new-refused

pub returns-clause-copied_late : goal.returns-clause-copied_late
returns-clause-copied_late c = copied_late-refused
