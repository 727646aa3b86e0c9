-- The rules are as they were before a place and room were made.
use Rattle.gateway_loop.proofs.turns.Loop.take_client.Goals as goal

pub make_room-requires : goal.make_room-requires
make_room-requires g c = record { suits = rw c.in_ok-it.ensures.rules c.requires.suits }

pub admit-requires-clause-suits : goal.admit-requires-clause-suits
admit-requires-clause-suits g c = rw (c.in_ok-it-2.ensures.rules, c.in_ok-it.ensures.rules) c.requires.suits
