use Rattle.exchange_table.proofs.exchanges.Exchanges.joined.Goals as goal

pub joined-requires-clause-ordered : goal.joined-requires-clause-ordered
joined-requires-clause-ordered g c = rw (c.deref.ensures.value) c.self.invariant.indexed.openings

pub joined-requires-clause-marked : goal.joined-requires-clause-marked
joined-requires-clause-marked g c = rw (c.deref.ensures.value, c.deref-2.ensures.value) c.self.invariant.keyed

pub joined-requires-clause-digested : goal.joined-requires-clause-digested
joined-requires-clause-digested g c = rw (c.deref.ensures.value) (rw (← c.self.view_is) at c.requires.digested)

pub joined-requires-clause-here : goal.joined-requires-clause-here
joined-requires-clause-here g c = rw (c.deref.ensures.value) (rw (← c.self.view_is) at c.requires.here)
