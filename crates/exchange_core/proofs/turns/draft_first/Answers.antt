use Rattle.std.proofs.Common.{subst, arith}
use Rattle.exchange_core.specs.Sending.{IsTimed}
use Rattle.exchange_core.proofs.turns.draft_first.Goals as goal

pub overflow_cast-timeout : goal.overflow_cast-timeout
overflow_cast-timeout g c = let h = subst IsTimed c.in-Some.is c.requires.timed in omega
    (arith, h)
