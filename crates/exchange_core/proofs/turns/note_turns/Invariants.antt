use Rattle.std.proofs.Common.{◌≡◌, ◌+◌, ◌≤◌, length, drop}
use Rattle.exchange_model.specs.Entering.{sent_as}
use Rattle.endpoint_table.specs.Turns.{turns_deeds, turns_going}
use Rattle.exchange_core.proofs.turns.note_turns.Given as goal

abbrev pub invariant-each : goal.invariant-each
invariant-each l = record {
  room : l.next + length (turns_deeds (drop l.place l.turns.items)) ≤ 4294967295;
  going : sent_as (turns_going l.next (drop l.place l.turns.items)) l.exchanges.exchanges
      ≡ sent_as (turns_going l.number l.turns.items) l.initial.exchanges.exchanges;
}
