use Rattle.history_laws.proofs.Watched.{served-holds, rejected-t-holds, forgotten-holds, unasked-refused, left_out-refused, not_newer-refused, older_served-refused, served_after-refused, counted_after-refused}
use Rattle.history_laws.proofs.worked.worked_watches.Goals as goal

pub returns-clause-served : goal.returns-clause-served
returns-clause-served c = served-holds

pub returns-clause-written : goal.returns-clause-written
returns-clause-written c = rejected-t-holds

pub returns-clause-forgotten : goal.returns-clause-forgotten
returns-clause-forgotten c = forgotten-holds

pub returns-clause-unasked : goal.returns-clause-unasked
returns-clause-unasked c = unasked-refused

pub returns-clause-left_out : goal.returns-clause-left_out
returns-clause-left_out c = left_out-refused

pub returns-clause-older : goal.returns-clause-older
returns-clause-older c = not_newer-refused

pub returns-clause-older_served : goal.returns-clause-older_served
returns-clause-older_served c = older_served-refused

pub returns-clause-served_after : goal.returns-clause-served_after
returns-clause-served_after c = served_after-refused

pub returns-clause-counted_after : goal.returns-clause-counted_after
returns-clause-counted_after c = counted_after-refused
