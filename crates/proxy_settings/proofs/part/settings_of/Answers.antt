use Rattle.toml.specs.Errors.{IsMemory}
use Rattle.toml.specs.View.{table_view}
use Rattle.proxy_settings.proofs.Setups.{as_table, no_table}
use Rattle.proxy_settings.proofs.part.settings_of.Goals as goal

pub returns-in-Ok : goal.returns-in-Ok
returns-in-Ok c =
    as_table c.args.part c.args.text.now (table_view c.in-Ok.table) c.setup_of.result c.in-Ok.ensures.ok c.setup_of.ensures

pub returns-in-Err : goal.returns-in-Err
returns-in-Err c =
    no_table c.args.part c.args.text.now c.unread.result (IsMemory c.in-Err.error) c.unread.ensures c.in-Err.ensures.refused
