-- Where nothing came any more, the wire has nothing left.
use Rattle.std.proofs.Common.{rules}
use Rattle.gateway_loop.proofs.turns.Loop.hear_all.Goals as goal

pub returns-then-not-heard-clause-all : goal.returns-then-not-heard-clause-all
returns-then-not-heard-clause-all g c = search rules
