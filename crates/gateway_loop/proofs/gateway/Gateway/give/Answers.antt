-- What leaves is the next segment, and all is served as it was.
use Rattle.gateway_loop.proofs.Remembering.{serving-out, some-holds}
use Rattle.gateway_loop.proofs.gateway.Gateway.give.Goals as goal

pub invariant_of-self-2 : goal.invariant_of-self-2
invariant_of-self-2 g c =
    serving-out g.R.Relation.holds g.R.Relation.takes g.S.Stream.written g.S.Stream.gave g.W.Wire.sent g.W.Wire.heard
    _ c.self.inside.world c.give.new.self _ _ _ (some-holds _ _ _ c.in-Some.is c.in_ok-entries.ensures.given) c.self.invariant

pub returns-clause-gives : goal.returns-clause-gives
returns-clause-gives g c =
    rw (← c.self.view_is) (c.given-first.ensures, some-holds _ _ _ c.in-Some.is c.in_ok-entries.ensures.given)
