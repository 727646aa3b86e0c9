use Rattle.exchange_table.proofs.Owning.{owned-push}
use Rattle.exchange_table.proofs.fetched.Fetched.push_in_room.Goals as goal

pub invariant_of-self : goal.invariant_of-self
invariant_of-self c =
    rw (c.push_reserved.ensures.items)
    (owned-push c.self.inside.pieces.items c.self.inside.owners.items c.note_owner.new.owners.items (record { opening = c.args.opening; number = c.args.number }) c.self.invariant
    c.note_owner.ensures.order c.note_owner.ensures.noted)
