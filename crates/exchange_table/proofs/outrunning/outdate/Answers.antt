use Rattle.std.proofs.Common.{ℕ, List, map, sym, ap, subst, ◌∙◌, arith}
use Rattle.std.specs.Prelude.{filter}
use Rattle.std.specs.List.{AllByRecursion}
use Rattle.cache_key.specs.Digests.{digests_of}
use Rattle.exchange_model.specs.Hearing.{outdated_by}
use Rattle.exchange_table.specs.Asks.{IsAskedHere}
use Rattle.exchange_table.specs.declared.marks.Mark.{Mark}
use Rattle.exchange_table.specs.Marks.{has_digest, key_in}
use Rattle.exchange_table.specs.Places.{RiseBy}
use Rattle.exchange_table.specs.Tables.{opening_of}
use Rattle.exchange_table.proofs.Among.{among, among-all, among-done, among-next, among-none, among-rise, outdated-others, outdated-settles}
use Rattle.exchange_table.proofs.Asks.{among-asks, here-map, outdated-asks}
use Rattle.exchange_table.proofs.outrunning.outdate.Goals as goal

pub marked-alike-requires : goal.marked-alike-requires
marked-alike-requires g c = c.requires.keyed.order

pub each-init : goal.each-init
each-init g c = sym (among-none (outdated_by c.args.journal.now.entries c.args.key.now) c.args.rows.now)

pub outdate_at-requires-clause-ordered : goal.outdate_at-requires-clause-ordered
outdate_at-requires-clause-ordered g c =
    let f = outdated_by c.args.journal.now.entries c.args.key.now in
    subst (RiseBy opening_of) (sym c.each.invariant)
    (among-rise f (outdated-settles c.args.journal.now.entries c.args.key.now) _ c.args.rows.now c.requires.ordered)

pub outdate_at-requires-clause-here : goal.outdate_at-requires-clause-here
outdate_at-requires-clause-here g c =
    let j = c.args.journal.now in
    let f = outdated_by j.entries c.args.key.now in
    subst (AllByRecursion (IsAskedHere j.given j.kept)) (sym c.each.invariant)
    (here-map j.given j.kept _ (among-asks _ f (outdated-asks j.entries c.args.key.now)) c.args.rows.now c.requires.here)

pub each-preserved : goal.each-preserved
each-preserved g c =
    let none : Mark = record { digest = 0; opening = 0 } in
    among-next (outdated_by c.args.journal.now.entries c.args.key.now) (outdated-settles c.args.journal.now.entries c.args.key.now)
    c.marked-alike.result.now c.each.mark-index none c.args.rows.now c.each.rows c.outdate_at.new.rows c.each-test.true c.each.invariant c.outdate_at.ensures

pub returns : goal.returns
returns g c =
    let ws = c.args.journal.now.entries in
    let key = c.args.key.now in
    let f = outdated_by ws key in
    let old = c.args.rows.now in
    let test = c.each-test.false in
    among-done f c.marked-alike.result.now c.each.mark-index old c.each.rows (omega (arith, test)) c.each.invariant
    ∙ ap (λ (ms : List Mark). map (among ms f) old) (c.marked-alike.ensures ∙ ap (λ (d : ℕ). filter (has_digest d) c.args.keys.now) (c.half_of.ensures ∙ ap key_in c.digests.ensures))
    ∙ among-all key_in (key_in (digests_of key)) f old c.args.keys.now c.requires.keyed (outdated-others ws key old c.requires.digested)
