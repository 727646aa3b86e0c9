use Rattle.std.proofs.Common.{◌≡◌, filter, length, true}
use Rattle.message_layer.specs.Remembering.{AreInOrder, IsChained, is_fresh, has_number_room}
use Rattle.message_layer.proofs.remembered.drop_first.Given as goal

abbrev pub invariant-each : goal.invariant-each
invariant-each l = record {
  in_order : AreInOrder l.messages.items;
  chained : IsChained l.chains l.messages.items;
  same : filter (is_fresh l.moment) l.messages.items ≡ filter (is_fresh l.moment) l.initial.messages.items;
  whole : l.messages.whole ≡ true;
  room : l.messages.room ≡ l.initial.messages.room;
  numbers : has_number_room l.chains ≡ has_number_room l.initial.chains;
}

abbrev pub decreases-each : goal.decreases-each
decreases-each l = length l.messages.items
