use Rattle.std.proofs.Common.{sym, ◌∙◌}
use Rattle.message_layer.proofs.Rising.{filter-kept, is-shorter}
use Rattle.message_layer.proofs.mids.drop_first.Goals as goal

pub drop_first-requires-clause-some : goal.drop_first-requires-clause-some
drop_first-requires-clause-some c =
    (is-shorter c.args.moment c.each.moments.items c.each.invariant.rising (sym c.has_unused_first.ensures ∙ c.each-test.true)).some

pub each-preserved : goal.each-preserved
each-preserved c =
    let left = is-shorter c.args.moment c.each.moments.items c.each.invariant.rising (sym c.has_unused_first.ensures ∙ c.each-test.true) in
    record {
      rising = rw c.drop_first.ensures.items left.rising;
      same = rw c.drop_first.ensures.items (left.same ∙ c.each.invariant.same);
      room = c.drop_first.ensures.room ∙ c.each.invariant.room;
      whole = c.drop_first.ensures.whole;
    }

pub each-smaller : goal.each-smaller
each-smaller c =
    let left = is-shorter c.args.moment c.each.moments.items c.each.invariant.rising (sym c.has_unused_first.ensures ∙ c.each-test.true) in
    rw c.drop_first.ensures.items left.shorter

pub returns-clause-items : goal.returns-clause-items
returns-clause-items c =
    sym (filter-kept c.args.moment c.each.moments.items c.each.invariant.rising (sym c.has_unused_first.ensures ∙ c.each-test.false)) ∙ c.each.invariant.same
