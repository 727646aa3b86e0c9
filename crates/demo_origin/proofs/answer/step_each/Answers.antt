use Rattle.demo_origin.specs.Peers.{stepped}
use Rattle.demo_origin.proofs.Lists.{mapped-set}
use Rattle.demo_origin.proofs.answer.step_each.Goals as goal

pub each-preserved : goal.each-preserved
each-preserved c =
    mapped-set (stepped c.args.moment c.args.peer.now c.args.kind) c.args.clients.now _ _ _ _
    c.each-test.true c.each.invariant c.stepped.ensures
