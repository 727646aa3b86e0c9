use Rattle.history_laws.proofs.Carried.{served_carried-holds, carried_late-refused, carried_for_another-refused, carried_outrun-refused, carried_other_message-refused, carried_without_message-refused, carried_twice-refused}
use Rattle.history_laws.proofs.worked.worked_carried.Goals as goal

pub returns-clause-served : goal.returns-clause-served
returns-clause-served c = served_carried-holds

pub returns-clause-late : goal.returns-clause-late
returns-clause-late c = carried_late-refused

pub returns-clause-another : goal.returns-clause-another
returns-clause-another c = carried_for_another-refused

pub returns-clause-outrun : goal.returns-clause-outrun
returns-clause-outrun c = carried_outrun-refused

pub returns-clause-other_message : goal.returns-clause-other_message
returns-clause-other_message c = carried_other_message-refused

pub returns-clause-without_message : goal.returns-clause-without_message
returns-clause-without_message c = carried_without_message-refused

pub returns-clause-twice : goal.returns-clause-twice
returns-clause-twice c = carried_twice-refused
