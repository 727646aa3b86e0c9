use Rattle.history_claims.proofs.Apart.{tokens-once, ids-once}
use Rattle.history_claims.proofs.Shared.{replies-once}
use Rattle.history_claims.proofs.laws.served_once.Goals as goal

pub returns-clause-tokens : goal.returns-clause-tokens
returns-clause-tokens c = tokens-once

pub returns-clause-ids : goal.returns-clause-ids
returns-clause-ids c = ids-once

pub returns-clause-replies : goal.returns-clause-replies
returns-clause-replies c = replies-once
