-- A piece follows those before it, and the last one ends them.
use Rattle.std.proofs.Common.{◌+◌, subst, sym}
use Rattle.gateway_desk.proofs.Whole.{At, ends-with, goes-on}
use Rattle.gateway_desk.proofs.replies.are_pieces.Goals as goal

pub returns-in-Ok-Last : goal.returns-in-Ok-Last
returns-in-Ok-Last c =
    ends-with c.each.pieces c.args.messages.now c.each.i c.index-messages-i.result c.in-Ok-Last.field-0 c.each-test.true
    c.index-messages-i.is c.in-Ok-Last.ensures.judged c.in-Ok-Last.field-0-is c.each.invariant

pub each-preserved : goal.each-preserved
each-preserved c =
    subst (λ p. At p c.args.messages.now (c.each.i + 1)) (sym c.advance.ensures)
    (goes-on c.each.pieces c.args.messages.now c.each.i c.index-messages-i.result c.in-Ok-Next.field-0 c.in-Ok-Next.field-0-0 c.each-test.true
    c.index-messages-i.is c.in-Ok-Next.ensures.judged c.in-Ok-Next.field-0-is c.each.invariant)
