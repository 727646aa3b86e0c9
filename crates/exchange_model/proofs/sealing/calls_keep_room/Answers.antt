use Rattle.exchange_model.proofs.InRoom.{start-in-room, within-limits, opens-in-room, shuts-in-room, asks-in-room, hears-in-room}
use Rattle.exchange_model.proofs.sealing.calls_keep_room.Goals as goal

pub returns-clause-start : goal.returns-clause-start
returns-clause-start c = start-in-room

pub returns-clause-within : goal.returns-clause-within
returns-clause-within c = within-limits

pub returns-clause-opens : goal.returns-clause-opens
returns-clause-opens c = opens-in-room

pub returns-clause-shuts : goal.returns-clause-shuts
returns-clause-shuts c = shuts-in-room

pub returns-clause-asks : goal.returns-clause-asks
returns-clause-asks c = asks-in-room

pub returns-clause-hears : goal.returns-clause-hears
returns-clause-hears c = hears-in-room
