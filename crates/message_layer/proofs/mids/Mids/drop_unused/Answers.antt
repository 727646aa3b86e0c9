use Rattle.message_layer.specs.Mids.{is_in_use}
use Rattle.message_layer.proofs.Rising.{IsRising-filter}
use Rattle.message_layer.proofs.mids.Mids.drop_unused.Goals as goal

pub invariant_of-self : goal.invariant_of-self
invariant_of-self c = λ risen.
    let was = c.self.invariant risen in (
      rw c.drop_first.ensures.items (IsRising-filter c.self.inside.newest (is_in_use c.args.moment) c.self.inside.moments.items was.0),
      c.drop_first.ensures.whole,
    )
