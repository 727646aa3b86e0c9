use Rattle.std.proofs.Common.{sym, subst}
use Rattle.std.specs.List.{AllByRecursion}
use Rattle.exchange_table.specs.Asks.{IsAskedHere}
use Rattle.exchange_core.proofs.Read.{whole-asks}
use Rattle.exchange_core.proofs.rotating.unwritten.Goals as goal

pub retire_all-requires : goal.retire_all-requires
retire_all-requires g c =
    whole-asks c.args.s.now.journal.given c.args.s.now.journal.kept c.requires _
