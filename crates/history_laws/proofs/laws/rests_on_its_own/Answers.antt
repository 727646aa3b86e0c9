use Rattle.history_laws.proofs.Own.{rests-on-its-own}
use Rattle.history_laws.proofs.Storing.{rests-on-the-store, nothing-outrun}
use Rattle.history_laws.proofs.laws.rests_on_its_own.Goals as goal

pub returns-clause-own : goal.returns-clause-own
returns-clause-own c = rests-on-its-own

pub returns-clause-store : goal.returns-clause-store
returns-clause-store c = rests-on-the-store

pub returns-clause-outrun : goal.returns-clause-outrun
returns-clause-outrun c = nothing-outrun
