use Rattle.std.proofs.Common.{sym, ◌∙◌}
use Rattle.message_layer.proofs.Ordering.{filter-kept, is-shorter}
use Rattle.message_layer.proofs.remembered.drop_first.Goals as goal

pub drop_oldest-requires-clause-some : goal.drop_oldest-requires-clause-some
drop_oldest-requires-clause-some c =
    (is-shorter c.args.moment c.each.messages.items c.each.invariant.in_order (sym c.has_old_first.ensures ∙ c.each-test.true)).some

pub each-preserved : goal.each-preserved
each-preserved c =
    let left = is-shorter c.args.moment c.each.messages.items c.each.invariant.in_order (sym c.has_old_first.ensures ∙ c.each-test.true) in
    let dropped = c.drop_oldest.ensures in
    record {
      in_order = rw dropped.messages left.in_order;
      chained = dropped.chained;
      same = rw dropped.messages (left.same ∙ c.each.invariant.same);
      whole = dropped.whole;
      room = dropped.room ∙ c.each.invariant.room;
      numbers = dropped.numbers ∙ c.each.invariant.numbers;
    }

pub each-smaller : goal.each-smaller
each-smaller c =
    let left = is-shorter c.args.moment c.each.messages.items c.each.invariant.in_order (sym c.has_old_first.ensures ∙ c.each-test.true) in
    rw c.drop_oldest.ensures.messages left.shorter

pub returns-clause-messages : goal.returns-clause-messages
returns-clause-messages c =
    sym (filter-kept c.args.moment c.each.messages.items c.each.invariant.in_order (sym c.has_old_first.ensures ∙ c.each-test.false)) ∙ c.each.invariant.same
