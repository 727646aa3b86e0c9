-- Bytes are given to one, who has its turn; so has one that is closed.
use Rattle.gateway_loop.proofs.Giving.{given-closed, given-says, given-up}
use Rattle.gateway_loop.proofs.delivery.deliver_one.Goals as goal

pub returns-in-Bytes-clause-given : goal.returns-in-Bytes-clause-given
returns-in-Bytes-clause-given g c =
    rw (c.in-Bytes.is, c.line_up.ensures.places)
    (given-says c.in-Bytes.number c.in-Bytes.bytes.items _ _ c.give.ensures.gets)

pub returns-in-Closed-clause-given : goal.returns-in-Closed-clause-given
returns-in-Closed-clause-given g c =
    rw (c.in-Closed.is, c.line_up-in-Closed.ensures.places, c.close.ensures)
    (given-closed c.in-Closed.number c.args.clients.now.places)

pub returns-in-GivenUp-clause-given : goal.returns-in-GivenUp-clause-given
returns-in-GivenUp-clause-given g c =
    rw (c.in-GivenUp.is, c.line_up-in-GivenUp.ensures.places, c.give_up.ensures)
    (given-up c.in-GivenUp.number c.args.clients.now.places)
