use Rattle.exchange_core.proofs.Asked.{all-asked}
use Rattle.exchange_core.proofs.Sinces.{open-later}
use Rattle.exchange_core.proofs.TickSince.{all-since}
use Rattle.exchange_core.proofs.due.next_due.Goals as goal

pub earliest_deadline-deadline-requires-clause-early : goal.earliest_deadline-deadline-requires-clause-early
earliest_deadline-deadline-requires-clause-early g c = rw (c.as_slice.ensures.all)
    (all-since _ c.requires.kept.kept c.requires.early)

pub earliest_deadline-deadline-requires-clause-ordered : goal.earliest_deadline-deadline-requires-clause-ordered
earliest_deadline-deadline-requires-clause-ordered g c = rw (c.as_slice.ensures.all)
    (open-later _ c.requires.kept.kept)

pub earliest_idle-idle-requires : goal.earliest_idle-idle-requires
earliest_idle-idle-requires g c = record {
  early = all-asked _ c.requires.kept.kept c.requires.early;
}
