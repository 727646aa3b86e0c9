use Rattle.message_layer.specs.Values.{seen}
use Rattle.message_layer.specs.Calls.{is_among}
use Rattle.message_layer.proofs.Sound.{rid_of-sound}
use Rattle.message_layer.proofs.sending.tick_prepared.Goals as goal

pub send_copy-requires-clause-sound : goal.send_copy-requires-clause-sound
send_copy-requires-clause-sound c =
    rw c.drop_gone.ensures.state (rid_of-sound (is_among c.args.gone.now) (seen c.args.s.now) c.requires.sound)
