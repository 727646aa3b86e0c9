use Rattle.std.proofs.Common.{sym, ◌∙◌, add-one}
use Rattle.endpoint_table.proofs.Finding.{first-at, none-more}
use Rattle.endpoint_table.proofs.hints.find_endpoint.Goals as goal

pub returns-then-is_same_peer-clause-some : goal.returns-then-is_same_peer-clause-some
returns-then-is_same_peer-clause-some c =
    first-at c.args.peer.now c.args.rows.now c.each.place c.index-rows-place.result c.each-test.true
    c.each.invariant (sym c.is_same_peer.ensures ∙ c.if-is_same_peer.true)

pub each-preserved : goal.each-preserved
each-preserved c =
    rw (add-one) (none-more c.args.peer.now c.args.rows.now c.each.place c.index-rows-place.result
    c.each-test.true c.each.invariant (sym c.is_same_peer.ensures ∙ c.if-is_same_peer.false))
