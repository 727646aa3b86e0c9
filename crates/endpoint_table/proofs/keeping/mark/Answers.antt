use Rattle.std.proofs.Common.{map, refl, sym, ◌∙◌}
use Rattle.endpoint_table.specs.Tables.{peer_link}
use Rattle.endpoint_table.proofs.Marking.{marks-same, marks-set}
use Rattle.endpoint_table.proofs.keeping.mark.Goals as goal

pub returns-in-Some : goal.returns-in-Some
returns-in-Some c =
    c.set.ensures
    ∙ marks-set c.args.peer.now (map peer_link c.args.rows.now) c.in-Some.place
    c.args.keeping.now c.requires c.in-Some.ensures.some

pub returns-in_default : goal.returns-in_default
returns-in_default c =
    sym (marks-same c.args.peer.now (map peer_link c.args.rows.now) c.args.keeping.now
    (c.in_default.ensures.none refl))
