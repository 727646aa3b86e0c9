use Rattle.history_claims.proofs.InCopies.{served-carried, carried-late, carried-for-another, carried-outrun}
use Rattle.history_claims.proofs.worked.worked_carried.Goals as goal

pub returns-clause-served : goal.returns-clause-served
returns-clause-served c = served-carried

pub returns-clause-late : goal.returns-clause-late
returns-clause-late c = carried-late

pub returns-clause-query : goal.returns-clause-query
returns-clause-query c = carried-for-another

pub returns-clause-overwritten : goal.returns-clause-overwritten
returns-clause-overwritten c = carried-outrun
