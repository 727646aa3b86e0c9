use Rattle.std.proofs.Common.{drop}
use Rattle.toml.specs.View.{items_view}
use Rattle.proxy_settings.proofs.Tables.{Checked}
use Rattle.proxy_settings.proofs.rows.check_all.Given as goal

abbrev pub invariant-each : goal.invariant-each
invariant-each g l = Checked (g.K.Rows.is_row l.kind) (items_view l.values) (items_view (drop l.number l.values))
