use Rattle.history_laws.proofs.Pieces.{fetched-holds, gap_heard-holds, other_asked-refused}
use Rattle.history_laws.proofs.worked.worked_pieces.Goals as goal

pub returns-clause-fetched : goal.returns-clause-fetched
returns-clause-fetched c = fetched-holds

pub returns-clause-gap : goal.returns-clause-gap
returns-clause-gap c = gap_heard-holds

pub returns-clause-other : goal.returns-clause-other
returns-clause-other c = other_asked-refused
