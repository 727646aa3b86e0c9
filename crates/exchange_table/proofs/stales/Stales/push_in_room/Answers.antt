use Rattle.exchange_table.specs.Stales.{asked_in}
use Rattle.exchange_table.proofs.Searching.{rise-push}
use Rattle.exchange_table.proofs.stales.Stales.push_in_room.Goals as goal

pub invariant_of-self : goal.invariant_of-self
invariant_of-self c =
    rw (c.push_reserved.ensures.items)
    (rise-push asked_in c.self.inside.stales.items c.args.stale c.self.invariant (rw (← c.self.view_is) at c.requires.latest))
