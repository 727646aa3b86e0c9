-- The connection is open, so it is closed.
use Rattle.gateway_world.proofs.Acting.{open-known}
use Rattle.gateway_world.proofs.engine.Engine.give_up.Goals as goal

pub unreachable-requires : goal.unreachable-requires
unreachable-requires g c =
    open-known c.args.number c.args.self.now.core c.requires.conn (c.close.ensures.unknown c.if-not-close.true).1
