use Rattle.coap_codec.specs.Spelling.{content}
use Rattle.message_layer.specs.Values.{seen}
use Rattle.message_layer.proofs.Sound.{Submits-sound}
use Rattle.message_layer.proofs.link.Link.submit.Goals as goal

pub invariant_of-self-2 : goal.invariant_of-self-2
invariant_of-self-2 c = Submits-sound c.args.moment c.args.word (content c.args.m) (seen c.self.inside.state) _ c.requires.moment c.requires.confirmable c.self.invariant (c.in_ok-submit.ensures.fault).1 c.in_ok-submit.ensures.ok
