use Rattle.std.proofs.Common.{◌-◌}
use Rattle.message_layer.specs.Remembering.{IsFollowed}
use Rattle.message_layer.proofs.chains.find_chained.Given as goal

abbrev pub invariant-back : goal.invariant-back
invariant-back l = IsFollowed l.chains l.messages.items l.moment l.mid l.number l.found

abbrev pub decreases-back : goal.decreases-back
decreases-back l = l.number - l.chains.forgotten
