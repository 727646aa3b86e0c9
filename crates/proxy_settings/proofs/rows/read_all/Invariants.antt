use Rattle.std.proofs.Common.{drop}
use Rattle.toml.specs.View.{items_view}
use Rattle.proxy_settings.proofs.Tables.{Completes}
use Rattle.proxy_settings.proofs.rows.read_all.Given as goal

abbrev pub invariant-each : goal.invariant-each
invariant-each g l = Completes (g.K.Rows.is_row l.kind) (items_view l.values) (items_view (drop l.value-index l.values)) l.rows
