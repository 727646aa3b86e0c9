-- The messages that were heard are those by which the response rests on the entries.
use Rattle.std.proofs.Common.{IsTrue, length, map, rules}
use Rattle.coap_codec.specs.Spelling.{content}
use Rattle.gateway_desk.proofs.Outcomes.{rests-so}
use Rattle.gateway_desk.proofs.shown.rests_on.Goals as goal

pub returns : goal.returns
returns g c =
    let a = c.args in
    let counts : IsTrue c.counts_from.result = search rules in
    rests-so c.are_response.result a.journal.now.entries a.numbers.now a.moment a.method (length a.body.now) a.response.now (map content c.in-Some.messages.items)
    (c.counts_from.ensures.0 counts) (rw c.in-Some.is at c.in_ok-messages.ensures) c.are_response.ensures
