use Rattle.std.proofs.Common.{map, ◌∙◌}
use Rattle.endpoint_table.specs.Tables.{peer_link}
use Rattle.endpoint_table.proofs.Marking.{marks-next, marks-none}
use Rattle.endpoint_table.proofs.keeping.mark_all.Goals as goal

pub each-init : goal.each-init
each-init c = c.in_ok-keeping.ensures ∙ marks-none c.args.rows.now

pub each-preserved : goal.each-preserved
each-preserved c =
    marks-next c.args.peers.now c.each.peer-index _ (map peer_link c.args.rows.now) c.each.keeping
    c.mark.new.keeping c.each-test.true c.each.invariant c.mark.ensures
