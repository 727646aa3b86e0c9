use Rattle.std.proofs.Common.{sym}
use Rattle.exchange_table.specs.Asks.{IsAskedHere}
use Rattle.exchange_table.specs.Tables.{is_opened_at}
use Rattle.exchange_table.proofs.Searching.{all-found}
use Rattle.exchange_table.proofs.joining.joined_at.Goals as goal

pub is_joined-requires : goal.is_joined-requires
is_joined-requires g c =
    all-found (IsAskedHere c.args.journal.now.given c.args.journal.now.kept) (is_opened_at c.args.opening) c.args.rows.now c.in_ok-row.row.now c.requires.here (sym c.in_ok-row.ensures)
