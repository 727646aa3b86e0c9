use Rattle.observe_share.proofs.Hinted.{hints-next}
use Rattle.observe_share.proofs.hints.put_hints.Goals as goal

pub each-preserved : goal.each-preserved
each-preserved c = (
  c.put_hint.ensures.len,
  hints-next c.each.hints c.put_hint.new.hints c.args.standing.now c.each.r-index c.r-item.result c.each-test.true c.r-item.is
      c.each.invariant.1 (rw (← c.rank.ensures) c.put_hint.ensures.put) c.put_hint.ensures.kept,
)
