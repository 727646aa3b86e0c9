-- Who has a turn is no matter of the rules.
use Rattle.gateway_loop.proofs.turns.Loop.go_on.Goals as goal

pub everyone_on-requires : goal.everyone_on-requires
everyone_on-requires g c = record { suits = rw c.take_everyone.ensures.world c.requires.suits }
