-- The rules are as they were before a place was made.
use Rattle.gateway_loop.proofs.turns.Loop.seat.Goals as goal

pub resume-requires : goal.resume-requires
resume-requires g c = record { suits = rw c.in_ok-it.ensures.rules c.requires.suits }
