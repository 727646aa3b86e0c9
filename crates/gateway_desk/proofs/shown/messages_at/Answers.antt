-- One entry more was heard, or none was.
use Rattle.gateway_desk.proofs.Outcomes.{heard-next, heard-none}
use Rattle.gateway_desk.proofs.shown.messages_at.Goals as goal

pub returns-in-None : goal.returns-in-None
returns-in-None g c =
    heard-none c.args.journal.now.entries c.args.numbers.now c.each.number-index _ c.each-test.true
    (rw c.in-None.is at c.in_ok-message.ensures)

pub each-preserved : goal.each-preserved
each-preserved g c =
    heard-next c.args.journal.now.entries c.args.numbers.now c.each.messages.items c.push.new.self.items c.each.number-index _
    c.in-Some.message c.each-test.true c.in_ok-push-in-Some.ensures.items c.each.invariant
    (rw c.in-Some.is at c.in_ok-message.ensures)
