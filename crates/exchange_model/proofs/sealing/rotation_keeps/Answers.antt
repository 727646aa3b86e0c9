use Rattle.exchange_model.proofs.Turned.{rotates-keeps}
use Rattle.exchange_model.proofs.TurnedRoom.{rotates-in-room, rotates-drained}
use Rattle.exchange_model.proofs.sealing.rotation_keeps.Goals as goal

pub returns-clause-keeps : goal.returns-clause-keeps
returns-clause-keeps c = rotates-keeps

pub returns-clause-room : goal.returns-clause-room
returns-clause-room c = rotates-in-room

pub returns-clause-drained : goal.returns-clause-drained
returns-clause-drained c = rotates-drained
