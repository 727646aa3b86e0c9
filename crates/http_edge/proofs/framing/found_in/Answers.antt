use Rattle.std.proofs.Common.{refl}
use Rattle.http_edge.specs.Lists.{lists}
use Rattle.http_edge.proofs.framing.found_in.Goals as goal

pub each-init : goal.each-init
unfolding lists
each-init c = (refl, refl, refl, refl, refl)
