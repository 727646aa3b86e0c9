use Rattle.observe_share.proofs.Due.{due_by, first_by}
use Rattle.observe_share.proofs.watch.Watch.next_due.Goals as goal

pub returns : goal.returns
returns c =
    rw (← c.self.view_is) (due_by c.self.inside.standing.items _ _ (first_by c.self.inside.standing.items c.self.inside.first _ c.self.invariant.least c.in_ok-self.was) c.checked_add.ensures)
