use Rattle.ask_model.proofs.CallerLemmas.{asks-alike}
use Rattle.history_laws.proofs.Joining.{one-joinable, reads-opened}
use Rattle.history_laws.proofs.laws.readers_join_one.Goals as goal

pub returns-clause-alike : goal.returns-clause-alike
returns-clause-alike c = asks-alike

pub returns-clause-one : goal.returns-clause-one
returns-clause-one c = one-joinable

pub returns-clause-opened : goal.returns-clause-opened
returns-clause-opened c = reads-opened
