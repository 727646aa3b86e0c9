-- A look leaves the world as it is.
use Rattle.gateway_loop.proofs.turns.Loop.look_at.Goals as goal

pub queue_up-requires : goal.queue_up-requires
queue_up-requires g c = record { suits = rw c.look.ensures c.requires.suits }

pub give_up-requires : goal.give_up-requires
give_up-requires g c = record { suits = rw c.look.ensures c.requires.suits }
