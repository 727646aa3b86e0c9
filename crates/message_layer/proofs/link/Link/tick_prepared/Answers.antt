use Rattle.std.proofs.Common.{subst}
use Rattle.message_layer.specs.Values.{seen, LinkState, Told, IsSound}
use Rattle.message_layer.specs.Calls.{is_among, without}
use Rattle.message_layer.proofs.Sound.{ticked-sound, rid_of-sound}
use Rattle.message_layer.proofs.link.Link.tick_prepared.Goals as goal

pub invariant_of-self : goal.invariant_of-self
invariant_of-self c =
    let s : LinkState = seen c.self.inside.state in
    let left : LinkState = without c.args.gone.now s in
    subst (λ (x : LinkState × Told). IsSound x.0) c.tick_prepared.ensures
    (ticked-sound c.args.moment left c.requires.moment (rid_of-sound (is_among c.args.gone.now) s c.self.invariant))
