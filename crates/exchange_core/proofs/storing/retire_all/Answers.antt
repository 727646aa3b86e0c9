use Rattle.std.proofs.Common.{subst, sym}
use Rattle.exchange_table.proofs.CallerLemmas.{all-at}
use Rattle.exchange_table.specs.Asks.{IsAskedHere}
use Rattle.exchange_core.proofs.storing.retire_all.Goals as goal

pub retire-requires : goal.retire-requires
retire-requires g c =
    let j = c.args.journal.now in
    subst (IsAskedHere j.given j.kept) (sym c.ended-item.is)
    (all-at (IsAskedHere j.given j.kept) c.args.over.now c.each.ended-index c.ended-item.result c.requires c.each-test.true)
