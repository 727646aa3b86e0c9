use Rattle.message_layer.proofs.Ordering.{latest-filter, in-order-filter}
use Rattle.message_layer.specs.Remembering.{is_fresh}
use Rattle.message_layer.proofs.remembered.Remembered.drop_old.Goals as goal

pub invariant_of-self : goal.invariant_of-self
invariant_of-self c = λ orderly.
    let was = (c.self.invariant orderly).0 in
    let kept = c.drop_first.ensures in (
      record {
        in_order = rw kept.messages (in-order-filter (is_fresh c.args.moment) c.self.inside.messages.items was.in_order);
        latest = rw kept.messages (latest-filter c.self.inside.newest (is_fresh c.args.moment) c.self.inside.messages.items was.latest);
        chained = kept.chained;
      },
      kept.whole,
    )
