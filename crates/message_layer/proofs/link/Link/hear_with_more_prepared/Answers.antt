use Rattle.std.proofs.Common.{subst, sym}
use Rattle.message_layer.specs.Values.{LinkValue, shown}
use Rattle.message_layer.specs.Prepared.{MayFollow}
use Rattle.message_layer.proofs.After.{followed-sound}
use Rattle.message_layer.proofs.link.Link.hear_with_more_prepared.Goals as goal

pub invariant_of-self : goal.invariant_of-self
invariant_of-self c =
    let P : LinkValue → Type 0 = λ l. MayFollow c.args.moment l c.args.x c.args.more in
    let may : P (shown c.self.inside.state) = subst P (sym c.self.view_is) c.requires.more in
    rw c.heed_with.ensures
    (followed-sound c.args.moment (shown c.self.inside.state) c.args.x c.args.more c.requires.moment c.self.invariant may)
