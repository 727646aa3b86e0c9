use Rattle.exchange_table.proofs.readers.Readers.push_in_room.Goals as goal

pub invariant_of-self : goal.invariant_of-self
invariant_of-self c = rw (c.push_reserved.ensures.items) (c.put_last.ensures c.self.inside.rows.items c.self.invariant)
