use Rattle.history_laws.proofs.Late.{heard_twice-holds, half_answered-holds, rejected_after-holds, abandoned-holds}
use Rattle.history_laws.proofs.worked.worked_late.Goals as goal

pub returns-clause-heard_twice : goal.returns-clause-heard_twice
returns-clause-heard_twice c = heard_twice-holds

pub returns-clause-half_answered : goal.returns-clause-half_answered
returns-clause-half_answered c = half_answered-holds

pub returns-clause-rejected_after : goal.returns-clause-rejected_after
returns-clause-rejected_after c = rejected_after-holds

pub returns-clause-abandoned : goal.returns-clause-abandoned
returns-clause-abandoned c = abandoned-holds
