use Rattle.history_claims.proofs.Copies.{copies-first}
use Rattle.history_claims.proofs.laws.copies_first.Goals as goal

pub returns : goal.returns
returns c = copies-first
