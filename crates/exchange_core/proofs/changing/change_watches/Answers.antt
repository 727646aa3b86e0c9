use Rattle.std.proofs.Common.{subst}
use Rattle.exchange_core.specs.Reading.{IsMatterHere}
use Rattle.exchange_core.proofs.changing.change_watches.Goals as goal

pub retire-requires : goal.retire-requires
retire-requires g c =
    (subst (IsMatterHere c.args.journal.now.given c.args.journal.now.kept) c.in-Over.is c.requires.here).0
