use Rattle.history_laws.proofs.Firsts.{firsts-tokens, firsts-ids}
use Rattle.history_laws.proofs.laws.sendings_apart.Goals as goal

pub returns-clause-tokens : goal.returns-clause-tokens
returns-clause-tokens c = firsts-tokens

pub returns-clause-ids : goal.returns-clause-ids
returns-clause-ids c = firsts-ids
