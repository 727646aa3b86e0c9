use Rattle.std.proofs.Common.{sym, ◌∙◌}
use Rattle.message_layer.proofs.Rising.{IsRising-push, goes-on}
use Rattle.message_layer.proofs.mids.Mids.push_reserved.Goals as goal

pub invariant_of-self : goal.invariant_of-self
invariant_of-self c = λ risen.
    let on = goes-on c.self.inside.rising c.self.inside.newest c.args.moment (sym c.goes_on-self-inside.ensures ∙ risen) in
    let was = c.self.invariant on.0 in (
      rw c.push_reserved.ensures.items (IsRising-push c.self.inside.newest c.args.moment c.self.inside.moments.items on.1 was.0),
      c.push_reserved.ensures.whole was.1,
    )
