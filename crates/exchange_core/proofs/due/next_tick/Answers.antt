use Rattle.exchange_core.proofs.TickSince.{all-since}
use Rattle.exchange_core.proofs.due.next_tick.Goals as goal

pub next_late-requires-clause-early : goal.next_late-requires-clause-early
next_late-requires-clause-early g c = rw (c.as_slice.ensures.all)
    (all-since _ c.requires.kept.kept c.requires.early)
