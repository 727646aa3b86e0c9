use Rattle.message_layer.proofs.Numbering.{waits-for, sent-for}
use Rattle.message_layer.proofs.handing.at_once.Goals as goal

pub returns-clause-waiting : goal.returns-clause-waiting
returns-clause-waiting c =
    waits-for _ _ _ _ _ _ _ c.waiting_of-waiting.ensures c.in_ok-of.ensures c.in_ok-datagram.ensures c.requires.id

pub returns-clause-sent : goal.returns-clause-sent
returns-clause-sent c =
    let waits =
    waits-for _ _ _ _ _ _ _ c.waiting_of-waiting.ensures c.in_ok-of.ensures c.in_ok-datagram.ensures c.requires.id in (
      sent-for _ _ _ _ _ _ _ _ _ _ waits c.first_mid_of.ensures c.mid_after-mid.ensures c.in_ok-datagram.ensures
          c.in_ok-first.ensures.message,
      c.in_ok-first.ensures.datagram,
    )
