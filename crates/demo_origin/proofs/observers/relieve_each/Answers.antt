use Rattle.demo_origin.specs.Observing.{relieved}
use Rattle.demo_origin.proofs.Lists.{mapped-set}
use Rattle.demo_origin.proofs.observers.relieve_each.Goals as goal

pub each-preserved : goal.each-preserved
each-preserved c =
    mapped-set (relieved c.args.peer.now c.args.mid) c.args.observers.now _ _ _ _
    c.each-test.true c.each.invariant c.relieve.ensures
