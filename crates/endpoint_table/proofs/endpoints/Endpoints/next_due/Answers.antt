use Rattle.std.proofs.Common.{ap, ◌∙◌, map}
use Rattle.endpoint_table.specs.Dues.{first_due}
use Rattle.endpoint_table.specs.Tables.{peer_link}
use Rattle.endpoint_table.proofs.TimersSet.{first-from}
use Rattle.endpoint_table.proofs.endpoints.Endpoints.next_due.Goals as goal

pub returns : goal.returns
returns c =
    rw (← c.self.view_is) (c.first_due.ensures ∙ (ap first_due (c.deref.ensures.value
    ∙ c.self.invariant.2.are) ∙ first-from 0 (map peer_link c.self.inside.rows.items)))
