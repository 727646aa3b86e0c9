use Rattle.endpoint_table.proofs.Finding.{first-below, first-once}
use Rattle.endpoint_table.proofs.hints.Hints.look_up.Goals as goal

pub returns-then-is_at-clause-below : goal.returns-then-is_at-clause-below
returns-then-is_at-clause-below c =
    first-below c.args.peer.now c.args.rows.now c.hint-place.result
    (first-once c.args.peer.now c.args.rows.now c.hint-place.result c.requires
    (c.is_at.ensures c.if-is_at.true))

pub returns-then-is_at-clause-some : goal.returns-then-is_at-clause-some
returns-then-is_at-clause-some c =
    first-once c.args.peer.now c.args.rows.now c.hint-place.result c.requires
    (c.is_at.ensures c.if-is_at.true)
