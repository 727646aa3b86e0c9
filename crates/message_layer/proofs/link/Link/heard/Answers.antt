use Rattle.message_layer.specs.Values.{seen}
use Rattle.message_layer.proofs.Sound.{hears-sound}
use Rattle.message_layer.proofs.link.Link.heard.Goals as goal

pub invariant_of-self-2 : goal.invariant_of-self-2
invariant_of-self-2 c = hears-sound c.args.moment c.args.datagram.now (seen c.self.inside.state) _ _ c.requires c.self.invariant c.in_ok-up.ensures.ok
