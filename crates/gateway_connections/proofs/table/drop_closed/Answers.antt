-- Where none closed, all stay.
use Rattle.std.proofs.Common.{not, rules}
use Rattle.std.proofs.lemmas.Fn.{filter_same}
use Rattle.gateway_connections.specs.declared.row.Row.{Row}
use Rattle.gateway_connections.proofs.Noting.{filter-opened}
use Rattle.gateway_connections.proofs.table.drop_closed.Goals as goal

pub returns-then-closed : goal.returns-then-closed
returns-then-closed c = filter_same _ (λ (r : Row). not r.closed) _ (λ x b f' k. search rules) _ _ c.retain.ensures.filtered

pub returns-else-closed : goal.returns-else-closed
returns-else-closed c = filter-opened c.args.rows.now.items (c.requires c.if-closed.false)
