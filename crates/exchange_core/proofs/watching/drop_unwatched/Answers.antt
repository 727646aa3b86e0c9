use Rattle.std.proofs.Common.{arith, subst, sym}
use Rattle.exchange_core.proofs.Watched.{unwatched-all, written-next}
use Rattle.exchange_table.proofs.CallerLemmas.{all-at}
use Rattle.exchange_table.specs.Asks.{IsAskedHere}
use Rattle.exchange_core.proofs.watching.drop_unwatched.Goals as goal

pub each-preserved : goal.each-preserved
each-preserved g c =
    written-next c.args.journal.now.entries c.args.over.now c.each.ended-index c.ended-item.result c.args.watches.now.standing c.each.watches.standing
    c.retire.new.watches.standing c.each-test.true c.ended-item.is c.each.invariant c.retire.ensures

pub returns : goal.returns
returns g c =
    let end = c.each-test.false in
    unwatched-all c.args.moment c.args.journal.now.entries c.args.over.now c.each.ended-index c.args.watches.now.standing c.each.watches.standing
    c.idle-count.new.self.standing (λ lt. omega (arith, lt, end)) c.each.invariant c.idle-count.ensures.watches

pub retire-requires : goal.retire-requires
retire-requires g c =
    let j = c.args.journal.now in
    subst (IsAskedHere j.given j.kept) (sym c.ended-item.is)
    (all-at (IsAskedHere j.given j.kept) c.args.over.now c.each.ended-index c.ended-item.result c.requires c.each-test.true)
