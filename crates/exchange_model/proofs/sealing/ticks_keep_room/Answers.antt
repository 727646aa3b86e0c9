use Rattle.exchange_model.proofs.Alone.{sealed-answers}
use Rattle.exchange_model.proofs.InRoom.{ticks-in-room, ticks-promptly}
use Rattle.exchange_model.proofs.sealing.ticks_keep_room.Goals as goal

pub returns-clause-keeps : goal.returns-clause-keeps
returns-clause-keeps c = ticks-in-room

pub returns-clause-promptly : goal.returns-clause-promptly
returns-clause-promptly c = ticks-promptly

pub returns-clause-sealed : goal.returns-clause-sealed
returns-clause-sealed c = sealed-answers
