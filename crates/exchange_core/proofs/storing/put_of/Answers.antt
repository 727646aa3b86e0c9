use Rattle.std.proofs.Common.{subst}
use Rattle.exchange_core.specs.Reading.{IsMatterHere}
use Rattle.exchange_core.proofs.storing.put_of.Goals as goal

pub put_ended-requires-clause-asked : goal.put_ended-requires-clause-asked
put_ended-requires-clause-asked g c =
    (subst (IsMatterHere c.args.journal.now.given c.args.journal.now.kept) c.in-Over.is c.requires).0

pub put_ended-requires-clause-ended : goal.put_ended-requires-clause-ended
put_ended-requires-clause-ended g c =
    (subst (IsMatterHere c.args.journal.now.given c.args.journal.now.kept) c.in-Over.is c.requires).1
