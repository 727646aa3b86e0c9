-- Nothing has happened yet.
use Rattle.gateway_loop.proofs.Standing.{serving-at, serving-new}
use Rattle.gateway_loop.proofs.gateway.Gateway.new.Goals as goal

pub invariant_of-result : goal.invariant_of-result
invariant_of-result g c =
    serving-at g.R.Relation.holds g.R.Relation.takes g.S.Stream.written g.S.Stream.gave g.W.Wire.sent g.W.Wire.heard
    _ _ _ c.in_ok-new-2.ensures.ok
    (serving-new g.R.Relation.holds g.R.Relation.takes g.S.Stream.written g.S.Stream.gave g.W.Wire.sent g.W.Wire.heard
    _ _ _ _ c.in_ok-new.ensures.is c.new.ensures c.requires.sent c.requires.heard)
