use Rattle.std.proofs.Common.{arith}
use Rattle.exchange_core.proofs.Least.{least-more, least-of-all}
use Rattle.exchange_core.proofs.taking.least_ask.Goals as goal

pub each-preserved : goal.each-preserved
each-preserved g c =
    least-more (λ a. a.ask) c.args.answers.now c.each.answer-index c.answer-item.result c.each.least c.lesser.result c.each.invariant c.each-test.true c.answer-item.is
    c.lesser.ensures.first c.lesser.ensures.other

pub returns : goal.returns
returns g c = least-of-all (λ a. a.ask) c.args.answers.now c.each.answer-index c.each.least c.each.invariant (omega (arith, c.each-test.false))
