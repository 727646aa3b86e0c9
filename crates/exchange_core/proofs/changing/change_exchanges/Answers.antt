use Rattle.std.proofs.Common.{sym, subst}
use Rattle.std.specs.List.{AllByRecursion}
use Rattle.history_laws.proofs.CallerLemmas.{all-filter}
use Rattle.exchange_model.specs.Matters.{IsDigested, is_other}
use Rattle.exchange_table.specs.Tables.{IsLatest}
use Rattle.exchange_core.specs.declared.matter.Matter.{Matter as RustMatter}
use Rattle.exchange_core.specs.Hearing.{IsNewestIn}
use Rattle.exchange_core.proofs.Started.{outdated-latest}
use Rattle.exchange_core.specs.Reading.{IsMatterHere}
use Rattle.exchange_table.specs.Asks.{IsAskedHere}
use Rattle.exchange_core.proofs.changing.change_exchanges.Goals as goal

pub outrun-requires-clause-digested : goal.outrun-requires-clause-digested
outrun-requires-clause-digested g c =
    let ws = c.args.journal.now.entries in
    subst (AllByRecursion (IsDigested ws)) (sym c.remove.ensures)
    (all-filter (IsDigested ws) (is_other c.in-Over.exchange.token) c.args.exchanges.now.exchanges c.requires.digests)

pub push_in_room-requires-clause-latest : goal.push_in_room-requires-clause-latest
push_in_room-requires-clause-latest g c =
    let ws = c.args.journal.now.entries in
    let e = c.in-Starts.starting.going.exchange in
    subst (IsLatest e) (sym c.outdate-in-Starts.ensures.exchanges)
    (outdated-latest ws c.in-Starts.starting.key e c.args.exchanges.now.exchanges
    (subst (λ (k : RustMatter). IsNewestIn k c.args.exchanges.now.exchanges) c.in-Starts.is c.requires.newest))

pub outrun-requires-clause-here : goal.outrun-requires-clause-here
outrun-requires-clause-here g c =
    let j = c.args.journal.now in
    subst (AllByRecursion (IsAskedHere j.given j.kept)) (sym c.remove.ensures)
    (all-filter (IsAskedHere j.given j.kept) (is_other c.in-Over.exchange.token) c.args.exchanges.now.exchanges c.requires.here)

pub outrun-requires-clause-ended : goal.outrun-requires-clause-ended
outrun-requires-clause-ended g c =
    let j = c.args.journal.now in
    (subst (λ (k : RustMatter). IsMatterHere j.given j.kept k) c.in-Over.is c.requires.matter).0
