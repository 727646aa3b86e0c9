use Rattle.history_laws.proofs.Spoiled.{heard_as_new-refused, rejected_late-refused, timed_out_early-refused, crossed-refused, sealed_early-refused}
use Rattle.history_laws.proofs.worked.spoiled_answers.Goals as goal

pub returns-clause-heard_as_new : goal.returns-clause-heard_as_new
returns-clause-heard_as_new c = heard_as_new-refused

pub returns-clause-rejected_late : goal.returns-clause-rejected_late
returns-clause-rejected_late c = rejected_late-refused

pub returns-clause-timed_out_early : goal.returns-clause-timed_out_early
returns-clause-timed_out_early c = timed_out_early-refused

pub returns-clause-crossed : goal.returns-clause-crossed
returns-clause-crossed c = crossed-refused

pub returns-clause-sealed_early : goal.returns-clause-sealed_early
returns-clause-sealed_early c = sealed_early-refused
