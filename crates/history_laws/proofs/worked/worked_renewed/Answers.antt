use Rattle.history_laws.proofs.Renewed.{renewed-holds, served_renewed-holds, renewed_again-holds}
use Rattle.history_laws.proofs.RenewedInPieces.{unknown_tag-holds, late_unknown-holds, other_tag-refused, valid_late-refused, asked_while_fresh-refused, asked_outrun-refused, tagged_late-refused}
use Rattle.history_laws.proofs.worked.worked_renewed.Goals as goal

pub returns-clause-renewed : goal.returns-clause-renewed
returns-clause-renewed c = renewed-holds

pub returns-clause-served : goal.returns-clause-served
returns-clause-served c = served_renewed-holds

pub returns-clause-again : goal.returns-clause-again
returns-clause-again c = renewed_again-holds

pub returns-clause-other_tag : goal.returns-clause-other_tag
returns-clause-other_tag c = other_tag-refused

pub returns-clause-late : goal.returns-clause-late
returns-clause-late c = valid_late-refused

pub returns-clause-fresh : goal.returns-clause-fresh
returns-clause-fresh c = asked_while_fresh-refused

pub returns-clause-outrun : goal.returns-clause-outrun
returns-clause-outrun c = asked_outrun-refused

pub returns-clause-tagged_late : goal.returns-clause-tagged_late
returns-clause-tagged_late c = tagged_late-refused

pub returns-clause-unknown : goal.returns-clause-unknown
returns-clause-unknown c = unknown_tag-holds

pub returns-clause-late_unknown : goal.returns-clause-late_unknown
returns-clause-late_unknown c = late_unknown-holds
