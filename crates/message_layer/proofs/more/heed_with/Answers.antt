use Rattle.message_layer.specs.Values.{seen}
use Rattle.message_layer.proofs.Sound.{applied-sound}
use Rattle.message_layer.proofs.more.heed_with.Goals as goal

pub take-requires-clause-sound : goal.take-requires-clause-sound
take-requires-clause-sound c = rw c.heed.ensures.state
    (applied-sound c.args.moment c.args.x.mid c.args.x.token c.args.x.verdict (seen c.args.s.now) c.requires.moment c.requires.sound)
