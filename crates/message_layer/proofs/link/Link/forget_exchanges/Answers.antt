use Rattle.message_layer.specs.Values.{seen}
use Rattle.message_layer.proofs.Sound.{kept-sound}
use Rattle.message_layer.proofs.link.Link.forget_exchanges.Goals as goal

pub invariant_of-self : goal.invariant_of-self
invariant_of-self c = rw c.forget_exchanges.ensures (kept-sound c.args.moment (seen c.self.inside.state) c.self.invariant)
