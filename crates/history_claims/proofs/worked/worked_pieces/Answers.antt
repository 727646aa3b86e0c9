use Rattle.history_claims.proofs.InPieces.{fetched, astray, asked-early, gap}
use Rattle.history_claims.proofs.worked.worked_pieces.Goals as goal

pub returns-clause-fetched : goal.returns-clause-fetched
returns-clause-fetched c = fetched

pub returns-clause-astray : goal.returns-clause-astray
returns-clause-astray c = astray

pub returns-clause-early : goal.returns-clause-early
returns-clause-early c = asked-early

pub returns-clause-gap : goal.returns-clause-gap
returns-clause-gap c = gap
