-- Each row is whole, and their numbers rise.
use Rattle.gateway_connections.proofs.Keeping.{kept-current, kept-marked}
use Rattle.gateway_connections.proofs.table.Table.keeps.Goals as goal

pub returns-clause-current : goal.returns-clause-current
returns-clause-current c = rw (← c.self.view_is) (kept-current c.self.inside.rows.items c.self.invariant.0 c.self.invariant.1)

pub returns-clause-marked : goal.returns-clause-marked
returns-clause-marked c = rw (← c.self.view_is) (kept-marked c.self.inside.rows.items c.self.invariant.0 c.self.invariant.1)
