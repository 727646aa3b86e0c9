use Rattle.std.proofs.Common.{◌≡◌, ◌≤◌, length, take}
use Rattle.endpoint_table.specs.Turns.{turns_deeds}
use Rattle.exchange_core.proofs.turns.sends_count.Given as goal

abbrev pub invariant-each : goal.invariant-each
invariant-each l = record {
  few : l.count ≤ l.place;
  count : l.count ≡ length (turns_deeds (take l.place l.turns.items));
}
