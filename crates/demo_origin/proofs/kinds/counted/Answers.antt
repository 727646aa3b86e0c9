use Rattle.std.proofs.Common.{add-one, sym}
use Rattle.demo_origin.proofs.Counting.{goes_on}
use Rattle.demo_origin.proofs.kinds.counted.Goals as goal

pub each-preserved : goal.each-preserved
each-preserved c =
    rw add-one
    (goes_on c.each.n c.in-Some.more c.each.c-index c.args.state.now _ c.each-test.true
    (sym c.in-Some.ensures) c.each.invariant)
