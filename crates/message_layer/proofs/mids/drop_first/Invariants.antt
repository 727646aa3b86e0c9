use Rattle.std.proofs.Common.{◌≡◌, filter, length, true}
use Rattle.message_layer.specs.Mids.{AreRising, is_in_use}
use Rattle.message_layer.proofs.mids.drop_first.Given as goal

abbrev pub invariant-each : goal.invariant-each
invariant-each l = record {
  rising : AreRising l.moments.items;
  same : filter (is_in_use l.moment) l.moments.items ≡ filter (is_in_use l.moment) l.initial.moments.items;
  room : l.moments.room ≡ l.initial.moments.room;
  whole : l.moments.whole ≡ true;
}

abbrev pub decreases-each : goal.decreases-each
decreases-each l = length l.moments.items
