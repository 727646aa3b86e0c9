use Rattle.std.proofs.Common.{subst, sym}
use Rattle.std.specs.List.{AllByRecursion}
use Rattle.exchange_model.specs.Matters.{IsDigested}
use Rattle.exchange_model.proofs.CallerLemmas.{none-left}
use Rattle.exchange_core.proofs.Outrun.{digested-left, left-next}
use Rattle.exchange_table.proofs.CallerLemmas.{all-at}
use Rattle.exchange_table.specs.Asks.{IsAskedHere}
use Rattle.exchange_core.proofs.Read.{asks-left}
use Rattle.exchange_core.proofs.expiring.outrun_all.Goals as goal

pub each-init : goal.each-init
each-init g c = sym (none-left c.args.journal.now.entries c.args.still.now.exchanges)

pub outrun-requires-clause-digested : goal.outrun-requires-clause-digested
outrun-requires-clause-digested g c =
    let ws = c.args.journal.now.entries in
    subst (AllByRecursion (IsDigested ws)) (sym c.each.invariant) (digested-left ws _ c.args.still.now.exchanges c.requires.digested)

pub each-preserved : goal.each-preserved
each-preserved g c =
    let ws = c.args.journal.now.entries in
    left-next ws c.args.over.now c.each.e-index c.e-item.result c.args.still.now.exchanges c.each.still.exchanges c.outrun.new.self.exchanges
    c.each-test.true c.e-item.is c.each.invariant c.outrun.ensures.exchanges

pub outrun-requires-clause-here : goal.outrun-requires-clause-here
outrun-requires-clause-here g c =
    let j = c.args.journal.now in
    subst (AllByRecursion (IsAskedHere j.given j.kept)) (sym c.each.invariant)
    (asks-left j.given j.kept j.entries _ c.args.still.now.exchanges c.requires.here)

pub outrun-requires-clause-ended : goal.outrun-requires-clause-ended
outrun-requires-clause-ended g c =
    let j = c.args.journal.now in
    subst (IsAskedHere j.given j.kept) (sym c.e-item.is)
    (all-at (IsAskedHere j.given j.kept) c.args.over.now c.each.e-index c.e-item.result c.requires.over c.each-test.true)
