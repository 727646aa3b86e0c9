use Rattle.std.proofs.Common.{Bool, ◌≡◌, subst, sym, ◌∙◌, arith}
use Rattle.exchange_model.specs.declared.kept.Exchange.{Exchange}
use Rattle.exchange_model.specs.Matters.{asked_in}
use Rattle.exchange_model.specs.Watching.{is_written_by}
use Rattle.exchange_table.proofs.CallerLemmas.{all-at}
use Rattle.exchange_table.specs.Asks.{IsAskedHere}
use Rattle.exchange_core.proofs.Watched.{late-end, late-found, late-next}
use Rattle.exchange_core.proofs.watching.is_written_late.Goals as goal

pub is_written-requires : goal.is_written-requires
is_written-requires g c =
    let j = c.args.journal.now in
    subst (IsAskedHere j.given j.kept) (sym c.ended-item.is)
    (all-at (IsAskedHere j.given j.kept) c.args.over.now c.each.ended-index c.ended-item.result c.requires c.each-test.true)

pub returns-then-is_written : goal.returns-then-is_written
returns-then-is_written g c =
    let by : Exchange → Bool = λ (e : Exchange). is_written_by (asked_in c.args.journal.now.entries e.ask) c.args.watch.now in
    late-found by c.args.over.now c.each.ended-index c.ended-item.result c.each-test.true c.ended-item.is
    (sym c.is_written.ensures ∙ c.if-is_written.true) c.each.invariant

pub each-preserved : goal.each-preserved
each-preserved g c =
    let by : Exchange → Bool = λ (e : Exchange). is_written_by (asked_in c.args.journal.now.entries e.ask) c.args.watch.now in
    late-next by c.args.over.now c.each.ended-index c.ended-item.result c.each-test.true c.ended-item.is
    (sym c.is_written.ensures ∙ c.if-is_written.false) c.each.invariant

pub returns : goal.returns
returns g c =
    let by : Exchange → Bool = λ (e : Exchange). is_written_by (asked_in c.args.journal.now.entries e.ask) c.args.watch.now in
    let end = c.each-test.false in
    late-end by c.args.over.now c.each.ended-index (λ lt. omega (arith, lt, end)) c.each.invariant
