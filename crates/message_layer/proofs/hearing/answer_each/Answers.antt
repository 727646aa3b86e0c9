use Rattle.message_layer.specs.Hearing.{answered}
use Rattle.message_layer.proofs.Lists.{mapped-set}
use Rattle.message_layer.proofs.hearing.answer_each.Goals as goal

pub each-preserved : goal.each-preserved
each-preserved c =
    mapped-set (answered c.args.token.now) c.args.awaited.now _ _ _ _ c.each-test.true c.each.invariant c.answered_one.ensures
