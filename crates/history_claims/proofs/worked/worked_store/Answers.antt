use Rattle.history_claims.proofs.Stored.{served, expired, overwritten, other-query}
use Rattle.history_claims.proofs.worked.worked_store.Goals as goal

pub returns-clause-served : goal.returns-clause-served
returns-clause-served c = served

pub returns-clause-expired : goal.returns-clause-expired
returns-clause-expired c = expired

pub returns-clause-overwritten : goal.returns-clause-overwritten
returns-clause-overwritten c = overwritten

pub returns-clause-query : goal.returns-clause-query
returns-clause-query c = other-query
