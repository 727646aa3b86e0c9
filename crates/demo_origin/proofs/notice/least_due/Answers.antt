use Rattle.std.proofs.Common.{ap, ◌∙◌}
use Rattle.demo_origin.specs.Notifying.{sooner}
use Rattle.demo_origin.specs.declared.state.Observer.{Observer}
use Rattle.demo_origin.proofs.Due.{least_further}
use Rattle.demo_origin.proofs.notice.least_due.Goals as goal

pub each-preserved : goal.each-preserved
each-preserved c =
    least_further c.args.observers.now c.each.o-index c.o-item.result c.each.least _ _
    c.each-test.true c.each.invariant
    (c.sooner-least.ensures
    ∙ ap (λ (o : Observer). sooner c.each.least o.outstanding) c.o-item.is)
